-- A filter: bytes, one for each slot. A word that was added has a 1 at its slot. Assumes nothing.
use Rattle.std.specs.Prelude.{ℕ, ◌≡◌, Bool, true, false, List, [], ◌∷◌, eqb, get_or, set, ◌==◌}
use Rattle.names.specs.Words.{Bytes, only, one_of}
use Rattle.records.specs.Items.{What, code, is}
use Rattle.tables.specs.Tables.{slot_of}
use Rattle.filters.specs.declared.Wanted.{Wanted}
use Rattle.filters.specs.declared.Wanted.TheVariants.{Sort, Label}

-- the filter with a word added; one without slots stays
unfoldable pub added : List ℕ → Bytes → List ℕ
added filter w = set filter (slot_of filter w) 1

-- the filter with each word of a list added
unfoldable pub added_all : List ℕ → List Bytes → List ℕ
added_all filter [] = filter
added_all filter (w ∷ ws) = added_all (added filter w) ws

-- a 0 stands at the word's slot; a filter without slots says it of none
unfoldable pub lacks : List ℕ → Bytes → Bool
lacks filter w = eqb (get_or filter (slot_of filter w) 1) 0

-- the item is one of those wanted: one of the sort, or one with a label
abbrev pub wants : Wanted → What → Bool
wants (Sort sort) w = is sort w
wants Label w = w.labels

-- the name of an item that is wanted, and nothing of any other
unfoldable pub named : Wanted → What → List Bytes
named v w = only (wants v w) w.name

-- the name of an item of the sort that has the number, and nothing of any other
unfoldable pub sort_named : ℕ → What → List Bytes
sort_named number w = only (number == code w.kind) w.name

-- the filter lacks no word that passes the test
pub record Covers (filter : List ℕ) (test : Bytes → Bool) : Type 0 where
  pub kept : (w : Bytes) → test w ≡ true → lacks filter w ≡ false

-- the filter lacks no word of the list
abbrev pub Holds : List ℕ → List Bytes → Type 0
Holds filter ws = Covers filter (λ (w : Bytes). one_of w ws)
