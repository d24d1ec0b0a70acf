-- Two stories alike in all but the order of their globals, externals, flows, and stitches within a flow. Assumes nothing.
use Rattle.std.specs.Prelude.{◌≡◌, Bool, true, false, List, [], ◌∷◌, ◌++◌, ℕ, suc}
use Rattle.names.specs.Words.{Bytes, same}
use Rattle.records.specs.Items.{What}
use Rattle.story.specs.Story.{Stitch, Flow, Story, words, whats}

-- one more where the test passes
abbrev pub more : Bool → ℕ → ℕ
more true n = suc n
more false n = n

-- how often a word stands in a list
abbrev pub count : Bytes → List Bytes → ℕ
count w [] = 0
count w (x ∷ xs) = more (same w x) (count w xs)

-- the same words equally often
abbrev pub EquallyOften : List Bytes → List Bytes → Type 0
EquallyOften l m = (w : Bytes) → count w l ≡ count w m

-- the two lists can be paired one to one: the first of the one with some y of the other, and the rest with the rest
abbrev pub Paired : {A : Type 0} → (A → A → Type 0) → List A → List A → Type 0
Paired R [] zs = zs ≡ []
Paired {A} R (x ∷ xs) zs = (y : A) × (before : List A) × (after : List A) × (zs ≡ before ++ (y ∷ after)) × R x y × Paired R xs (before ++ after)

-- a stitch. Body is what is asked of two bodies: that they are equal, or that they can be paired one to one.
pub record AlikeStitch (Body : List What → List What → Type 0) (a b : Stitch) : Type 0 where
  pub name : a.name.bytes ≡ b.name.bytes
  pub params : words a.params ≡ words b.params
  pub marks : words a.marks ≡ words b.marks
  pub body : Body (whats a.body) (whats b.body)

-- a flow, with stitches in any order
pub record AlikeFlow (Body : List What → List What → Type 0) (f g : Flow) : Type 0 where
  pub function : f.function ≡ g.function
  pub name : f.name.bytes ≡ g.name.bytes
  pub params : words f.params ≡ words g.params
  pub marks : words f.marks ≡ words g.marks
  pub body : Body (whats f.body) (whats g.body)
  pub stitches : Paired (AlikeStitch Body) f.stitches g.stitches

-- a story, with globals, externals and flows in any order
pub record AlikeBy (Body : List What → List What → Type 0) (s t : Story) : Type 0 where
  pub globals : EquallyOften (words s.globals) (words t.globals)
  pub externals : EquallyOften (words s.externals) (words t.externals)
  pub root : Body (whats s.root) (whats t.root)
  pub flows : Paired (AlikeFlow Body) s.flows t.flows

-- alike in all but the order of globals, externals, flows and stitches
abbrev pub Alike : Story → Story → Type 0
Alike = AlikeBy (λ a b. a ≡ b)

-- the same records in another order, as where branches change places
abbrev pub Shuffled : List What → List What → Type 0
Shuffled a b = Paired (λ v w. v ≡ w) a b

-- alike also in all but the order of the records of each body
abbrev pub AlikeShuffled : Story → Story → Type 0
AlikeShuffled = AlikeBy Shuffled
