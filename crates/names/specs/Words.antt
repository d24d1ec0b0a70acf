-- Names as lists of bytes, and the tests on names and lists that the rules use. Assumes nothing.
use Rattle.std.specs.Prelude.{Bool, true, false, ◌&&◌, ◌||◌, ℕ, eqb}
use mathlib.Core.List.{List, [], ◌∷◌, ◌++◌, Memᴰ}

-- a name or another word, as bytes
abbrev pub Bytes : Type 0
Bytes = List ℕ

-- the same bytes
abbrev pub same : Bytes → Bytes → Bool
same [] [] = true
same [] (y ∷ ys) = false
same (x ∷ xs) [] = false
same (x ∷ xs) (y ∷ ys) = eqb x y && same xs ys

-- some element passes the test
abbrev pub any : {A : Type 0} → (A → Bool) → List A → Bool
any f [] = false
any f (x ∷ xs) = f x || any f xs

-- the one element where the test passes, and nothing where it fails
abbrev pub only : {A : Type 0} → Bool → A → List A
only true x = x ∷ []
only false x = []

-- what f gives for each element, joined in order
abbrev pub each : {A B : Type 0} → (A → List B) → List A → List B
each f [] = []
each f (x ∷ xs) = f x ++ each f xs

-- the word is one of the list
abbrev pub one_of : Bytes → List Bytes → Bool
one_of w l = any (same w) l

-- the word begins with the byte
abbrev pub begins : ℕ → Bytes → Bool
begins b [] = false
begins b (x ∷ xs) = eqb b x

-- the word ends in the other
abbrev pub ends : Bytes → Bytes → Bool
ends end [] = same end []
ends end (x ∷ xs) = same end (x ∷ xs) || ends end xs

-- x is an element of the list
infix 60 ◌∈◌
abbrev pub ◌∈◌ : {A : Type 0} → A → List A → Type 0
x ∈ l = Memᴰ x l

-- a list in order: each element stands in R to all that follow
abbrev pub Sorted : {A : Type 0} → (A → A → Type 0) → List A → Type 0
Sorted R [] = Unit {0}
Sorted {A} R (x ∷ xs) = ((y : A) → y ∈ xs → R x y) × Sorted R xs
