-- Files of bytes, read and judged: P2's, the same with a target of kind 7, which is not checked, and files alike in all but order.
-- They meet what the theorems on files and on stories ask. Assumes nothing.
use mathlib.Core.Path.{◌≡◌, refl}
use mathlib.Core.List.{List, [], ◌∷◌, ◌++◌}
use mathlib.Core.Option.{Option, none, some}
use Prim.Native.Nat.{ℕ, ◌+◌}
use lib.ListN.{length}
use Rattle.fields.specs.Bytes.{head_of, list_of, name_of, flag_of}
use Rattle.fields.specs.Kinds.{node_kind, kind_of}
use Rattle.records.specs.Trace.{and_then, shift, met, ends}
use Rattle.records.specs.Grammar.{front_at, repeat_n, repeat, named_at, flagged_at, piece_at, ending, body_of, whole, record_of, nodes}
use Rattle.story.specs.declared.Sections.{Sections}
use Rattle.records.specs.Items.{name_in, sort_of, name_start, nameless, record_name, labelled, in_branch, leaves, what_of, item_as, item_of, items_ended, items_in}
use Rattle.story.specs.Headings.{reach_at, names_reach, counted_reach, list_at, marks_at, params_at, name_then, heading_of}
use Rattle.story.specs.Flows.{names, names_then, counted, titled, stitch, flow, flows, names_n, names_in, counted_in, part, titled_at, titled_in, pieces_at, pieces_n, pieces_in, stitch_in, title_end, flow_in, flows_in}
use Rattle.story.specs.File.{marked, start_at, sections_of, opened_of, sections_read, read_ended, read_at, read_of, story_in}
use Rattle.names.specs.Reserved.{builtins}
use Rattle.symbols.specs.Index as index
use Rattle.symbols.specs.Numbers.{absent}
use Rattle.rules.specs.declared.Rule.TheVariants.{TargetNotFound}
use Rattle.rules.specs.Rules.{broken, known, here, number}
use Rattle.rules.specs.Steps.{over, stitch_runs, flow_runs, runs, Breach, breaches, verdict}
use Rattle.rules.specs.Alike.{AlikeShuffled}
use Rattle.rules.specs.Files.{AlikeFlowBytes, AlikeFiles}
use Rattle.rules.specs.Reader.{Readable, story_at, story_of, flow_parts, flow_bytes, parts_in, parts_at, parts_of}
use Rattle.rules.proofs.Paired.{paired-swapped, often-swapped}

-- 1. THE FILES

-- a root with one record of the kind, a name x its payload; starts 0, 0, 0, 7; and the mark
unfoldable pub file : ℕ → List ℕ
file kind = kind ∷ 2 ∷ 0 ∷ 0 ∷ 0 ∷ 1 ∷ 120 ∷ 0 ∷ 0 ∷ 0 ∷ 0 ∷ 0 ∷ 0 ∷ 0 ∷ 0 ∷ 0 ∷ 0 ∷ 0 ∷ 0 ∷ 7 ∷ 0 ∷ 0 ∷ 0 ∷ 73 ∷ 75 ∷ 1 ∷ 0 ∷ []

-- the sections of such a file
abbrev sections : Sections
sections = record { externals = 0; root = 0; flows = 7; end = 7 }

-- a number below 256, in 32 bits
abbrev number32 : ℕ → List ℕ
number32 n = n ∷ 0 ∷ 0 ∷ 0 ∷ []

-- 32-bit length, then so many bytes
abbrev measured : List ℕ → List ℕ
measured s = number32 (length s) ++ s

-- a name of one byte
abbrev letter : ℕ → List ℕ
letter x = 1 ∷ x ∷ []

-- a divert to the name
abbrev divert_to : ℕ → List ℕ
divert_to x = 3 ∷ measured (letter x)

-- a stitch without parameters, with these records
abbrev stitch_named : ℕ → List ℕ → List ℕ
stitch_named x nodes = measured (letter x ++ (0 ∷ 0 ∷ []) ++ measured nodes)

-- a knot without parameters, with these records and stitches
abbrev knot_named : ℕ → List ℕ → List ℕ → List ℕ
knot_named x nodes stitches = measured ((0 ∷ []) ++ letter x ++ (0 ∷ 0 ∷ []) ++ measured nodes ++ stitches)

-- four sections and the trailer
abbrev file_of : List ℕ → List ℕ → List ℕ → List ℕ → List ℕ
file_of globals externals root flows =
    let externals_at = length globals in
    let root_at = externals_at + length externals in
    let flows_at = root_at + length root in
    globals ++ externals ++ root ++ flows
    ++ number32 0 ++ number32 externals_at ++ number32 root_at ++ number32 flows_at ++ (73 ∷ 75 ∷ 1 ∷ 0 ∷ [])

-- globals a, b; externals c, d; the root's divert to x; knot k with stitches s, which diverts to t, and t; knot m
pub in_order : ℕ → List ℕ
in_order x =
    file_of (letter 97 ++ letter 98) (letter 99 ++ letter 100) (divert_to x)
    (knot_named 107 [] (stitch_named 115 (divert_to 116) ++ stitch_named 116 []) ++ knot_named 109 [] [])

-- the same with globals, externals, knots and stitches exchanged
pub exchanged : ℕ → List ℕ
exchanged x =
    file_of (letter 98 ++ letter 97) (letter 100 ++ letter 99) (divert_to x)
    (knot_named 109 [] [] ++ knot_named 107 [] (stitch_named 116 [] ++ stitch_named 115 (divert_to 116)))

-- the root, knot k and its stitch s, each of them with a divert to x and a divert to y
pub two_diverts : ℕ → ℕ → List ℕ
two_diverts x y = file_of [] [] (divert_to x ++ divert_to y) (knot_named 107 (divert_to x ++ divert_to y) (stitch_named 115 (divert_to x ++ divert_to y)))

-- 2. READ AND JUDGED

-- the rule that a verdict names, 0 where accepted
abbrev pub rule_of : Option Breach → ℕ
rule_of none = 0
rule_of (some b) = number b.rule

-- read, and judged: the rule that the verdict names, 0 where accepted
pub record Judged (file : List ℕ) (rule : ℕ) : Type 0 where
  pub readable : Readable file
  pub judged : rule_of (verdict (story_of file)) ≡ rule

-- rule 2 in step 2, at the place 0, with the name at the place 5
abbrev pub not_found : Breach
not_found = record { instance = 1; rule = TargetNotFound; place = 0; names = (5, absent) }

pub record Examples : Type 0 where
  -- the example with kind 3, and with kind 7 in its place
  pub target-missing : Judged (file 3) 2
  pub onward-unchecked : Judged (file 7) 0
  -- the first one's breach
  pub missing : verdict (story_of (file 3)) ≡ some not_found
  -- the two files are readable and alike, whatever x is; the first is accepted where x is t, and in breach of rule 2 where it is x
  pub first : (x : ℕ) → Readable (in_order x)
  pub second : (x : ℕ) → Readable (exchanged x)
  pub alike : (x : ℕ) → AlikeFiles (parts_of (in_order x)) (parts_of (exchanged x))
  pub accepted : verdict (story_of (in_order 116)) ≡ none
  pub in-breach : rule_of (verdict (story_of (in_order 120))) ≡ 2
  -- the two diverts of each body exchanged
  pub shuffled : (x y : ℕ) → AlikeShuffled (story_of (two_diverts x y)) (story_of (two_diverts y x))

pub examples : Examples
unfolding file in_order exchanged two_diverts read_of read_at opened_of marked start_at sections_read read_ended names names_then counted piece_at titled stitch flow flows nodes part repeat repeat_n front_at named_at flagged_at ending head_of list_of name_of flag_of kind_of node_kind body_of whole record_of and_then shift ends story_of story_at story_in names_n names_in counted_in flows_in pieces_in pieces_n pieces_at flow_in stitch_in title_end titled_in titled_at heading_of name_then params_at marks_at list_at counted_reach names_reach reach_at items_in items_ended met item_of item_as what_of sort_of name_in name_start nameless record_name labelled in_branch leaves parts_of parts_at parts_in flow_bytes flow_parts index.labelled index.stitch_entries index.flow_entries index.entries over stitch_runs flow_runs runs breaches verdict known here broken builtins
examples = record {
  target-missing = record { readable = record { sections = sections; told = refl }; judged = refl };
  onward-unchecked = record { readable = record { sections = sections; told = refl }; judged = refl };
  missing = refl;
  first = λ x. record { sections = sections_of (in_order x); told = refl };
  second = λ x. record { sections = sections_of (exchanged x); told = refl };
  alike = λ x. record {
    root = refl;
    globals = often-swapped (97 ∷ []) (98 ∷ []) [];
    externals = often-swapped (99 ∷ []) (100 ∷ []) [];
    flows = paired-swapped AlikeFlowBytes
        (record { flag = refl; name = refl; params = refl; marks = refl; nodes = refl; stitches = paired-swapped (λ (s t : List ℕ). s ≡ t) refl refl })
        (record { flag = refl; name = refl; params = refl; marks = refl; nodes = refl; stitches = refl });
  };
  accepted = refl;
  in-breach = refl;
  shuffled = λ x y. record {
    globals = λ w. refl;
    externals = λ w. refl;
    root = paired-swapped (λ v w. v ≡ w) refl refl;
    flows = (
      _,
      [],
      [],
      refl,
      record {
        function = refl;
        name = refl;
        params = refl;
        marks = refl;
        body = paired-swapped (λ v w. v ≡ w) refl refl;
        stitches = (_, [], [], refl, record { name = refl; params = refl; marks = refl; body = paired-swapped (λ v w. v ≡ w) refl refl }, refl);
      },
      refl,
    );
  };
}
