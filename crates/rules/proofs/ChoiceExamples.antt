-- A file with two choices in a branch, one that leaves and one that ends in a tunnel: it meets what the laws of rule 11 suppose. Assumes nothing.
use mathlib.Core.Path.{◌≡◌, refl}
use mathlib.Core.List.Memᴰ
use mathlib.Core.List.{List, [], ◌∷◌, ◌++◌}
use Prim.Native.Nat.{ℕ}
use Rattle.fields.specs.declared.Role.TheVariants.{Branch}
use Rattle.fields.specs.declared.Body.TheVariants as body
use Rattle.fields.specs.Bytes.{head_of, list_of, name_of, flag_of}
use Rattle.fields.specs.Kinds.{node_kind, cond_kind, kind_of}
use Rattle.names.specs.Words.{◌∈◌}
use Rattle.records.specs.Trace.{and_then, shift, Record, met, well, ends}
use Rattle.records.specs.Grammar.{front_at, ending, repeat_n, repeat, exact, piece_at, named_at, flagged_at, last, or_else, arms, options, body_of, whole, record_of, nodes}
use Rattle.story.specs.Story.{Story}
use Rattle.records.specs.Items.{sort_of, in_branch, ending_at, ending_n, end_with_divert, spanned, past, unlabelled, second_list, choice_body, leaves, what_of, item_as, item_of}
use Rattle.story.specs.Flows.{names, flows, part}
use Rattle.story.specs.File.{marked, start_at, opened_of, sections_read, read_ended, read_at, read_of}
use Rattle.rules.specs.Rules.{root}
use Rattle.rules.specs.Meaning.{Broken}
use Rattle.rules.specs.Reader.{Readable}
use Rattle.rules.specs.Sorts.{Leaves, Undiverted}
use Rattle.rules.proofs.Choices.{ChoiceRead, choice-read, choice-leaves, breaks-11}

-- the payloads of two choices: flag 0, no condition, and a divert to x with a Newline behind it; or a tunnel to x
diverted : List ℕ
diverted = 0 ∷ 0 ∷ 0 ∷ 0 ∷ 0 ∷ 12 ∷ 0 ∷ 0 ∷ 0 ∷ 3 ∷ 2 ∷ 0 ∷ 0 ∷ 0 ∷ 1 ∷ 120 ∷ 1 ∷ 0 ∷ 0 ∷ 0 ∷ 0 ∷ []

tunnelled : List ℕ
tunnelled = 0 ∷ 0 ∷ 0 ∷ 0 ∷ 0 ∷ 7 ∷ 0 ∷ 0 ∷ 0 ∷ 4 ∷ 2 ∷ 0 ∷ 0 ∷ 0 ∷ 1 ∷ 120 ∷ []

-- a conditional with both in its first branch, and no second
conditional : List ℕ
conditional = 8 ∷ 57 ∷ 0 ∷ 0 ∷ 0 ∷ 0 ∷ 0 ∷ 0 ∷ 0 ∷ 0 ∷ 47 ∷ 0 ∷ 0 ∷ 0 ∷ 14 ∷ 21 ∷ 0 ∷ 0 ∷ 0 ∷ diverted ++ (14 ∷ 16 ∷ 0 ∷ 0 ∷ 0 ∷ tunnelled ++ (0 ∷ []))

-- it as the root; starts 0, 0, 0, 62; and the mark
file : List ℕ
file = conditional ++ (0 ∷ 0 ∷ 0 ∷ 0 ∷ 0 ∷ 0 ∷ 0 ∷ 0 ∷ 0 ∷ 0 ∷ 0 ∷ 0 ∷ 62 ∷ 0 ∷ 0 ∷ 0 ∷ 73 ∷ 75 ∷ 1 ∷ 0 ∷ [])

-- the choices as records
first : Record
first = record { role = Branch; kind = 14; place = 14; payload = diverted }

second : Record
second = record { role = Branch; kind = 14; place = 40; payload = tunnelled }

-- the story of nothing
abbrev nothing : Story
nothing = record { globals = []; externals = []; root = []; flows = [] }

record Examples : Type 0 where
  -- a choice's payload that is read well, and its lists
  payload-well : ends (body_of body.Choice (record_of 1) diverted) ≡ well
  lists : ChoiceRead (record_of 1) diverted
  -- by its divert the one leaves, and by its tunnel the other does not
  leaving : Leaves diverted
  staying : Leaves tunnelled → ⊥
  -- nodes that are read well, with the choices among their records
  nodes-well : ends (nodes conditional) ≡ well
  first-met : first ∈ met 0 (nodes conditional)
  second-met : second ∈ met 0 (nodes conditional)
  -- rule 11 is broken by the second alone
  first_passes : Undiverted (met 0 (nodes conditional)) first → ⊥
  second-breaks : Undiverted (met 0 (nodes conditional)) second
  -- the file is readable
  readable : Readable file

examples : Examples
unfolding diverted tunnelled conditional file first second head_of list_of name_of flag_of node_kind cond_kind kind_of and_then shift met ends front_at ending repeat_n repeat exact piece_at named_at flagged_at last or_else arms options body_of whole record_of nodes sort_of in_branch ending_at ending_n end_with_divert spanned past unlabelled second_list choice_body leaves what_of item_as item_of names flows part marked start_at opened_of sections_read read_ended read_at read_of Broken
examples = record {
  payload-well = refl;
  lists = choice-read (record_of 1) diverted refl;
  leaving = (choice-leaves (record_of 1) diverted refl).to tt;
  staying = λ l. (choice-leaves (record_of 1) tunnelled refl).from l;
  nodes-well = refl;
  first-met = Memᴰ.tail (Memᴰ.tail (Memᴰ.head refl));
  second-met = Memᴰ.tail (Memᴰ.tail (Memᴰ.tail (Memᴰ.tail (Memᴰ.tail (Memᴰ.head refl)))));
  first_passes = λ u. ((breaks-11 0 conditional refl first (Memᴰ.tail (Memᴰ.tail (Memᴰ.head refl))) nothing root []).1 u).2 tt;
  second-breaks =
      (breaks-11 0 conditional refl second (Memᴰ.tail (Memᴰ.tail (Memᴰ.tail (Memᴰ.tail (Memᴰ.tail (Memᴰ.head refl)))))) nothing root []).0
      (refl, tt, λ t. t);
  readable = record { sections = record { externals = 0; root = 0; flows = 62; end = 62 }; told = refl };
}
