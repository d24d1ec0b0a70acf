-- THE REFUSALS, each in its case and in its turn: 1 to 3, 7 and 8 as statements in 01's words, 4 to 6 as the first that the grammar meets. Assumes nothing.
use Rattle.std.specs.Prelude.{◌≡◌, List, [], ◌∷◌, ◌⊎◌, ℕ, ◌+◌, ◌-◌, ◌*◌, ◌≤◌, ◌<◌, length, drop}
use Rattle.fields.specs.declared.Refusal.{Refusal}
use Rattle.fields.specs.Bytes.{le32_at}
use Rattle.fields.specs.Refusals.{refusal_number}
use Rattle.records.specs.Trace.{Trace, well, refused, ends}
use Rattle.records.specs.Grammar.{nodes}
use Rattle.story.specs.Flows.{names, flows, part}
use Rattle.symbols.specs.Numbers.{index_room}

-- 1. THE TRAILER

-- L is not under 20, nor over 1,048,576
pub record GoodLength (file : List ℕ) : Type 0 where
  pub not_under : 20 ≤ length file
  pub not_over : length file ≤ 1048576

-- the last four bytes are 49 4B 01 00
abbrev pub Marked : List ℕ → Type 0
Marked file = drop (length file - 4) file ≡ 73 ∷ 75 ∷ 1 ∷ 0 ∷ []

-- the section start with the number, from 0: 32 bits, little-endian, in the trailer of 20 bytes
abbrev pub start : List ℕ → ℕ → ℕ
start file k = le32_at file (length file - 20 + 4 * k)

-- the first start is 0, starts never fall, the last is at most L-20
pub record GoodStarts (file : List ℕ) : Type 0 where
  pub first : start file 0 ≡ 0
  pub second : start file 0 ≤ start file 1
  pub third : start file 1 ≤ start file 2
  pub fourth : start file 2 ≤ start file 3
  pub last : start file 3 ≤ length file - 20

-- 2. THE SECTIONS, front to back

-- each section ends where the next starts, flows at L-20
abbrev pub read_globals : List ℕ → Trace
read_globals file = names (part (start file 0) (start file 1) file)

abbrev pub read_externals : List ℕ → Trace
read_externals file = names (part (start file 1) (start file 2) file)

abbrev pub read_root : List ℕ → Trace
read_root file = nodes (part (start file 2) (start file 3) file)

abbrev pub read_flows : List ℕ → Trace
read_flows file = flows (part (start file 3) (length file - 20) file)

-- a reading ends well, without a refusal
abbrev pub Well : Trace → Type 0
Well t = ends t ≡ well

-- a reading ends at the refusal with the number, the first that it met
abbrev pub Meets : Trace → ℕ → Type 0
Meets t n = (r : Refusal) × (ends t ≡ refused r) × (refusal_number r ≡ n)

-- the refusal with the number is the first met, reading the sections front to back
pub data FirstMet (file : List ℕ) (n : ℕ) : Type 0 where
  in_globals : Meets (read_globals file) n → FirstMet file n
  in_externals : Well (read_globals file) → Meets (read_externals file) n → FirstMet file n
  in_root : Well (read_globals file) → Well (read_externals file) → Meets (read_root file) n → FirstMet file n
  in_flows : Well (read_globals file) → Well (read_externals file) → Well (read_root file) → Meets (read_flows file) n → FirstMet file n

-- 3. THE ORDER: 1, 2, 3; then 4 to 6 as first met; then 7, 8

-- refusals 1 to 6
pub data Unreadable (file : List ℕ) : ℕ → Type 0 where
  refusal_1 : (length file < 20) ⊎ (1048576 < length file) → Unreadable file 1
  refusal_2 : GoodLength file → (Marked file → ⊥) → Unreadable file 2
  refusal_3 : GoodLength file → Marked file → (GoodStarts file → ⊥) → Unreadable file 3
  refusals_4_to_6 : {n : ℕ} → GoodLength file → Marked file → GoodStarts file → FirstMet file n → Unreadable file n

-- a file is readable when none of 1 to 6 applies
abbrev pub NoneApplies : List ℕ → Type 0
NoneApplies file = (n : ℕ) → Unreadable file n → ⊥

-- refusals 1 to 7, with an index of so many numbers
pub data Unindexed (file : List ℕ) (index : ℕ) : ℕ → Type 0 where
  unreadable : {n : ℕ} → Unreadable file n → Unindexed file index n
  refusal_7 : NoneApplies file → index < index_room file → Unindexed file index 7

-- refusals 1 to 8, with a message buffer of so many bytes too
pub data Unchecked (file : List ℕ) (index message : ℕ) : ℕ → Type 0 where
  unindexed : {n : ℕ} → Unindexed file index n → Unchecked file index message n
  refusal_8 : NoneApplies file → index_room file ≤ index → message < 640 → Unchecked file index message 8
