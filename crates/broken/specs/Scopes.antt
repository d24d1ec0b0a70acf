-- Inner contract. The names where a step runs, by the numbers that the code has of it; and what holds of the story and its sets while rules are tested.
use Rattle.std.specs.Prelude.{ℕ, ◌≤◌, Bool, not, ◌&&◌, ◌||◌, List, length, take}
use Rattle.names.specs.Words.{Bytes}
use Rattle.records.specs.Items.{What}
use Rattle.story.specs.Story.{whats}
use Rattle.story.specs.Flows.{part}
use Rattle.story.specs.declared.Sections.{Sections}
use Rattle.story.specs.File.{InOrder, story_in}
use Rattle.searches.specs.Counted.{counted_at}
use Rattle.items.specs.Bodies.{items_at, kept_story, Kept}
use Rattle.items.specs.Search.{label_in, temp_in}
use Rattle.sets.specs.Known.{NamesIn}
use Rattle.targets.specs.Entries.{TargetsIn}
use Rattle.symbols.specs.Index.{entries}
use Rattle.symbols.specs.Placed.{placed}
use Rattle.sets.specs.Members.{Members}
use Rattle.items.specs.declared.named.Sought.TheVariants as sought
use Rattle.rules.specs.declared.Rule.{Rule}
use Rattle.rules.specs.Rules.{Known, Here, known, broken}
use Rattle.broken.specs.declared.Scope.{Scope}
use Rattle.broken.specs.declared.Site.{Site}
use Rattle.broken.specs.declared.At.{At}
use Rattle.broken.specs.declared.StoryView.{StoryView}

-- the names of the whole story in the file
abbrev pub known_in : Sections → List ℕ → Known
known_in c file = known (kept_story c file)

-- a parameter or a temp of the flow or the stitch with these parameters and this run of items
abbrev pub declared_in : List ℕ → List ℕ → ℕ → ℕ → ℕ → Bytes → Bool
declared_in file kept params first last n = counted_at file params n || temp_in (items_at file (part first last kept)) n

-- the names of the root, the flow or the stitch at hand: the labels are those of the knot and all its stitches, in one run
unfoldable pub here_in : List ℕ → List ℕ → Scope → Here
here_in file kept v = record {
  param = counted_at file v.params;
  mark = counted_at file v.marks;
  label = λ n. label_in (items_at file (part v.knot v.end kept)) n;
  forbidden = λ n. declared_in file kept v.outer v.knot v.own n && not (declared_in file kept v.params v.first v.last n);
  stitched = v.stitched;
}

-- the sections stand in order, and the set of names is filled
pub record NamesReady (file : List ℕ) (v : StoryView) (names : List ℕ) : Type 0 where
  pub order : InOrder v.sections file
  pub known : NamesIn file v.sections names v.names

-- the kept items are those of the readable file, and the set of targets is filled
pub record TargetsReady (file : List ℕ) (v : StoryView) (kept targets : List ℕ) : Type 0 where
  pub read : Kept file v.sections kept
  pub put : TargetsIn file targets (placed (entries (story_in v.sections file))) v.left

-- the parameters stand within the file, and the runs within the kept items
pub record ScopeReady (file kept : List ℕ) (v : Scope) : Type 0 where
  pub params : v.params ≤ length file
  pub marks : v.marks ≤ length file
  pub outer : v.outer ≤ length file
  pub body : (v.first ≤ v.last) × (v.last ≤ length kept)
  pub own : (v.knot ≤ v.own) × (v.own ≤ length kept)
  pub whole : (v.knot ≤ v.end) × (v.end ≤ length kept)

-- the items of the body, of the knot's own list, and of the knot with its stitches
abbrev pub body_run : List ℕ → Scope → List ℕ
body_run kept v = part v.first v.last kept

abbrev pub own_run : List ℕ → Scope → List ℕ
own_run kept v = part v.knot v.own kept

abbrev pub knot_run : List ℕ → Scope → List ℕ
knot_run kept v = part v.knot v.end kept

-- the knot's labels and the temps of its own list are in its set, in classes 0 and 1, but for the rests
pub record KnotSet (file kept : List ℕ) (s : Site) (set : List ℕ) : Type 0 where
  pub labels : Members sought.Label file 0 (knot_run kept s.scope) (length (knot_run kept s.scope)) set s.rests.labels
  pub temps : Members sought.Temp file 1 (own_run kept s.scope) (length (own_run kept s.scope)) set s.rests.temps

-- the body's temps, and the gathers among its first items, are in its set, in classes 1 and 2, but for the rests
pub record BodySet (file kept : List ℕ) (s : Site) (number : ℕ) (set : List ℕ) : Type 0 where
  pub temps : Members sought.Temp file 1 (body_run kept s.scope) (length (body_run kept s.scope)) set s.rests.own
  pub gathers : Members sought.Gather file 2 (body_run kept s.scope) number set s.rests.gathers

-- all that a rule may ask at a thing of a story that is ready, before which so many items of the body stand, is ready
pub record Ready (file kept knot body : List ℕ) (s : Site) (number : ℕ) : Type 0 where
  pub scope_ready : ScopeReady file kept s.scope
  pub knot_set : KnotSet file kept s knot
  pub body_set : BodySet file kept s number body

-- what the items of the body before the thing are
abbrev pub before_at : List ℕ → List ℕ → At → List What
before_at file kept at = take at.number (whats (items_at file (body_run kept at.site.scope)))

-- the rule is broken at a thing that stands there
abbrev pub broken_at : Sections → List ℕ → List ℕ → At → Rule → What → Bool
broken_at sections file kept at r w = broken (known_in sections file) (here_in file kept at.site.scope) (before_at file kept at) r w
