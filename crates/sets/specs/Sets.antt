-- Sets of words: which words a set holds, and how each is reached. Assumes nothing.
use Rattle.std.specs.Prelude.{Result, Ok, Err, is_err, not, ℕ, zero, suc, ◌-◌, ◌/◌, ◌%◌, ◌≤◌, ◌<◌, ◌≡◌, Bool, true, false, ◌||◌, List, [], ◌∷◌, length, get_or}
use Rattle.names.specs.Words.{Bytes, same, one_of, each}
use Rattle.names.specs.Counted.{name_at}
use Rattle.sets.specs.declared.Sought.{Sought}
use Rattle.sets.specs.declared.Sought.TheVariants as sought
use Rattle.sets.specs.declared.Look.{Look}
use Rattle.sets.specs.declared.Look.TheVariants as look
use Rattle.sets.specs.declared.Class.{Class}
use Rattle.sets.specs.declared.Class.TheVariants.{Global, External, Flow, Function, Label, Temp, Gather}
use Rattle.sets.specs.declared.Full.{Full}
use Rattle.sets.specs.Hashes.{tag_of, home_of}

-- 1. Slots

-- the number of a class in the slots of its set
abbrev pub number_of : Class → ℕ
number_of Global = 0
number_of External = 1
number_of Flow = 2
number_of Function = 3
number_of Label = 0
number_of Temp = 1
number_of Gather = 2

-- how the number of a slot is read, which is not 0: its word, the mark that it bears, and the mark that a word has
pub record Slots : Type 0 where
  pub word : ℕ → Bytes
  pub mark : ℕ → ℕ
  pub mark_of : Bytes → ℕ

-- names of a file in classes, each the word of its class and its bytes: 1 + the place, and from bit 20 on the tag, which begins with the class
abbrev pub name_slots : List ℕ → Slots
name_slots file = record {
  word = λ (slot : ℕ). (slot - 1) / 1048576 % 4 ∷ name_at file ((slot - 1) % 1048576);
  mark = λ (slot : ℕ). (slot - 1) / 1048576;
  mark_of = tag_of;
}

-- 2. A set

-- the word of a slot, where it has one
unfoldable pub held_in : Slots → ℕ → List Bytes
held_in k zero = []
held_in k (suc n) = k.word (suc n) ∷ []

-- the words that a set holds
unfoldable pub held : Slots → List ℕ → List Bytes
held k set = each (held_in k) set

-- every slot is empty
pub record Empty (set : List ℕ) : Type 0 where
  pub slot : (i : ℕ) → get_or set i 0 ≡ 0

-- each word bears its mark, and is reached from its home without meeting an empty slot
pub record Reachable (k : Slots) (set : List ℕ) : Type 0 where
  pub marked : (i : ℕ) → (get_or set i 0 ≡ 0 → ⊥) → k.mark (get_or set i 0) ≡ k.mark_of (k.word (get_or set i 0))
  pub home : (i : ℕ) → (get_or set i 0 ≡ 0 → ⊥) → home_of (length set) (k.word (get_or set i 0)) ≤ i
  pub between : (i j : ℕ) → (get_or set i 0 ≡ 0 → ⊥) → home_of (length set) (k.word (get_or set i 0)) ≤ j → j < i → get_or set j 0 ≡ 0 → ⊥

-- 3. Looking for a word

-- the first empty slot from the word's home on
pub record Room (set : List ℕ) (w : Bytes) (s : ℕ) : Type 0 where
  pub inside : s < length set
  pub empty : get_or set s 0 ≡ 0
  pub home : home_of (length set) w ≤ s
  pub between : (j : ℕ) → home_of (length set) w ≤ j → j < s → get_or set j 0 ≡ 0 → ⊥

-- each slot from the home up to `at` was looked at, and is another
pub record Others (looked : ℕ → Look → Type 0) (home at : ℕ) : Type 0 where
  pub other : (j : ℕ) → home ≤ j → j < at → looked j look.Other

-- where a walk over slots ends, by what each that was looked at is
abbrev pub Walked : (ℕ → Look → Type 0) → ℕ → ℕ → Sought → Type 0
Walked looked home slots sought.Found = (at : ℕ) × (at < slots) × looked at look.Met
Walked looked home slots (sought.Vacant at) = Others looked home at × (home ≤ at) × (at < slots) × looked at look.Empty
Walked looked home slots sought.Exhausted = Others looked home slots

-- what a slot is to a walk that looks for the word
abbrev pub Looked : Slots → List ℕ → Bytes → ℕ → Look → Type 0
Looked k set w at look.Empty = get_or set at 0 ≡ 0
Looked k set w at look.Met = (get_or set at 0 ≡ 0 → ⊥) × (same w (k.word (get_or set at 0)) ≡ true)
Looked k set w at look.Other = (get_or set at 0 ≡ 0 → ⊥) × (same w (k.word (get_or set at 0)) ≡ false)

-- what the end of the walk over a word's slots says
abbrev pub Ended : Slots → List ℕ → Bytes → Sought → Type 0
Ended k set w sought.Found = one_of w (held k set) ≡ true
Ended k set w (sought.Vacant s) = (one_of w (held k set) ≡ false) × Room set w s
Ended k set w sought.Exhausted = one_of w (held k set) ≡ false

-- 4. Putting a word

-- the answer says that the word was held before
abbrev pub was_held : Result Bool Full → Bool
was_held (Ok new) = not new
was_held (Err e) = false

-- what the set holds after a word was put
pub record PutIn (k : Slots) (word : Bytes) (before after : List ℕ) (r : Result Bool Full) : Type 0 where
  pub reachable : Reachable k after
  pub was : was_held r ≡ one_of word (held k before)
  pub holds : is_err r ≡ false → (w : Bytes) → one_of w (held k after) ≡ same w word || one_of w (held k before)
  pub full : is_err r ≡ true → after ≡ before

-- 5. Names of a class, put one after the other

-- the names in the list are those that the set holds in the class, and the rest
pub record Holding (k : Slots) (class : ℕ) (set : List ℕ) (all rest : List Bytes) : Type 0 where
  pub reachable : Reachable k set
  pub words : (w : Bytes) → one_of w all ≡ one_of (class ∷ w) (held k set) || one_of w rest

-- the set holds the same names in the class as before
pub record Same (k : Slots) (class : ℕ) (before after : List ℕ) : Type 0 where
  pub words : (w : Bytes) → one_of (class ∷ w) (held k after) ≡ one_of (class ∷ w) (held k before)

-- the set holds no name in the class
pub record Without (k : Slots) (class : ℕ) (set : List ℕ) : Type 0 where
  pub reachable : Reachable k set
  pub none : (w : Bytes) → one_of (class ∷ w) (held k set) ≡ false
