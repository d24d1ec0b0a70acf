-- Wrong lookups, refuted: on a small file, with an index that is long enough, the wrong answer does not meet the contract of a lookup. Assumes nothing.
use mathlib.Core.Path.{◌≡◌, refl, ◌∙◌, ap}
use mathlib.Core.List.{List, [], ◌∷◌}
use Prim.Native.Nat.{ℕ, ◌≤◌}
use Rattle.std.proofs.Common.{Ok, Err}
use native.Mathlib.Omega.{arith}
use lib.ListN.{length, get_or}
use borrow.Author.Tests.{le-ltb}
use Rattle.fields.specs.declared.Refusal.TheVariants.{Short}
use Rattle.fields.specs.Bytes.{name_of}
use Rattle.fields.specs.Refusals.{refusal_number}
use Rattle.names.specs.Words.{Bytes}
use Rattle.records.specs.Trace.{and_then, shift, met, ends}
use Rattle.records.specs.Grammar.{repeat_n, repeat, named_at, nodes}
use Rattle.records.specs.Buffers.{overlay}
use Rattle.story.specs.declared.Sections.{Sections}
use Rattle.records.specs.Items.{items_ended, items_in}
use Rattle.story.specs.Flows.{names, flows, names_n, names_in, part, pieces_n, pieces_in, flows_in}
use Rattle.story.specs.File.{marked, start_at, opened_of, sections_read, read_ended, read_at, read_of, story_in}
use Rattle.symbols.specs.Index.{labelled, entries}
use Rattle.symbols.specs.Numbers.{absent, numbers}
use Rattle.symbols.specs.Placed.{placed, index_of}
use Rattle.symbols.specs.Rows.{first_of}
use Rattle.lookups.specs.declared.Target.TheVariants as target
use Rattle.lookups.specs.declared.LookupRefusal.TheVariants.{Unreadable}
use Rattle.lookups.specs.Results.{exact, answered, LookupAnswer, answer_of, result_of}
use Rattle.lookups.specs.Lookup.{entry_of, target_of, lookup_at, lookup_of, index_at, lookup_index, Looked}

-- a file with the global x alone: starts 0, 2, 2, 2, and the mark
unfoldable pub global_file : List ℕ
global_file = 1 ∷ 120 ∷ 0 ∷ 0 ∷ 0 ∷ 0 ∷ 2 ∷ 0 ∷ 0 ∷ 0 ∷ 2 ∷ 0 ∷ 0 ∷ 0 ∷ 2 ∷ 0 ∷ 0 ∷ 0 ∷ 73 ∷ 75 ∷ 1 ∷ 0 ∷ []

-- its sections
abbrev sections : Sections
sections = record { externals = 2; root = 2; flows = 2; end = 2 }

-- the target x
abbrev x : Bytes
x = 120 ∷ []

readable : read_of global_file ≡ Ok sections
unfolding global_file read_of read_at opened_of marked start_at sections_read read_ended names flows nodes part repeat repeat_n name_of named_at and_then shift ends
readable = refl

-- every lookup of x finds entry 0, of one
found : (index : ℕ) → 6 ≤ index → lookup_of global_file index x ≡ answered (exact 0) 1
unfolding global_file lookup_of lookup_at target_of entry_of story_in part names_in names_n items_in items_ended nodes repeat repeat_n ends met flows_in pieces_in pieces_n entries labelled first_of
found index h = rw (readable, le-ltb index 6 h)

-- and leaves its three numbers at the index's start
written : (index : List ℕ) → 6 ≤ length index → lookup_index global_file index ≡ overlay (absent ∷ absent ∷ 0 ∷ []) index
unfolding global_file lookup_index index_at index_of placed numbers story_in part names_in names_n items_in items_ended nodes repeat repeat_n ends met flows_in pieces_in pieces_n entries labelled
written index h = rw (readable, le-ltb (length index) 6 h)

-- THE IMPOSTORS: for each, that the contract of a lookup, of its answer on that file, is absurd
pub record Impostors : Type 0 where
  -- one answering Missing before the search
  pub missing-before-the-search : (index index' : List ℕ) (n : ℕ) → 6 ≤ length index
      → Looked global_file index x (Ok (record { target = target.Missing; entries = n })) index' → ⊥
  -- one answering refusal 4 for all
  pub refusing-all : (index index' : List ℕ) → 6 ≤ length index → Looked global_file index x (Err (Unreadable Short)) index' → ⊥
  -- one with an invented entry count; there is one entry
  pub invented-count : (index index' : List ℕ) (n : ℕ) → (n ≡ 1 → ⊥) → 6 ≤ length index
      → Looked global_file index x (Ok (record { target = target.Exact 0; entries = n })) index' → ⊥
  -- one leaving the index as it was, which does not begin with the number for none by chance
  pub index-left-blank : (r : LookupAnswer) (index : List ℕ) → (get_or index 0 0 ≡ absent → ⊥) → 6 ≤ length index → Looked global_file index x r index → ⊥

pub impostors : Impostors
unfolding result_of answer_of refusal_number overlay
impostors = record {
  missing-before-the-search = λ index index' n h p. let e = p.result ∙ found (length index) h in let z : ◌≡◌ {A = ℕ} 0 1 = cc in omega arith;
  refusing-all = λ index index' h p. let e = p.result ∙ found (length index) h in let z : ◌≡◌ {A = ℕ} 0 1 = cc in omega arith;
  invented-count = λ index index' n not-one h p. let e = p.result ∙ found (length index) h in not-one (cc);
  index-left-blank = λ r index other h p. other (ap (λ (l : List ℕ). get_or l 0 0) (p.index ∙ written index h));
}
