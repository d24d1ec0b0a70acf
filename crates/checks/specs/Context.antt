-- Where a step runs, as the code has it, and what holds while the steps run. Assumes nothing.
use Rattle.std.specs.Prelude.{ℕ, ◌≤◌, ◌≡◌, Bool, true, not, ◌&&◌, ◌||◌, List, length}
use Rattle.std.specs.Coded.{le_prop}
use Rattle.names.specs.Words.{Bytes, any}
use Rattle.story.specs.declared.Sections.{Sections}
use Rattle.records.specs.Items.{What}
use Rattle.story.specs.Story.{Stitch}
use Rattle.story.specs.Flows.{part, pieces_in, stitch_in}
use Rattle.story.specs.File.{InOrder}
use Rattle.records.specs.Numbers.{item_in}
use Rattle.searches.specs.Counted.{counted_at}
use Rattle.items.specs.Bodies.{kept_in, Rising, rising_prop, kept_story}
use Rattle.items.specs.Search.{label_in, temp_in}
use Rattle.symbols.specs.Index.{spellings}
use Rattle.symbols.specs.Rows as rows
use Rattle.tables.specs.Functions.{Functions}
use Rattle.rules.specs.Rules.{Known, Here, known}
use Rattle.checks.specs.declared.ScopeView.{ScopeView}
use Rattle.checks.specs.declared.Slot.{Slot}

-- what the item is to the rules
abbrev pub what_at : List ℕ → Slot → What
what_at file slot = (item_in file slot.item).what

-- the names of the whole story in the file
abbrev pub known_in : Sections → List ℕ → Known
known_in c file = known (kept_story c file)

-- a parameter or a temp of the flow or the stitch with these parameters and this body
abbrev pub declared_at : List ℕ → List ℕ → ℕ → ℕ → ℕ → Bytes → Bool
declared_at file kept params from to n = counted_at file params n || temp_in (kept_in file kept from to) n

-- the names of the root, the flow or the stitch at hand: the labels are those of the knot and all its stitches, in one run
unfoldable pub here_at : List ℕ → List ℕ → ScopeView → Here
here_at file kept v = record {
  param = counted_at file v.params;
  mark = counted_at file v.marks;
  label = λ n. label_in (kept_in file kept v.body v.end) n;
  forbidden = λ n. declared_at file kept v.outer v.body v.stitches n && not (declared_at file kept v.params v.from v.to n);
  stitched = not v.inner && any (λ (t : Stitch). true) (pieces_in stitch_in v.stitches (part v.stitches v.end file));
}

-- the sections stand in order, the index's first entries spell the story's names, and the table has its functions
pub record Ready (file : List ℕ) (c : Sections) (index : List ℕ) (count : ℕ) (functions : List ℕ) : Type 0 where
  pub sections : InOrder c file
  pub spelled : rows.spellings_in file count index ≡ spellings (kept_story c file)
  pub functions_known : Functions file c functions

-- the names of the flow or the stitch, and those of its knot, stand within the file, and the places of the kept numbers rise
pub record ScopeReady (file kept : List ℕ) (v : ScopeView) : Type 0 where
  pub params : v.params ≤ length file
  pub marks : v.marks ≤ length file
  pub outer : v.outer ≤ length file
  pub ordered : v.from ≤ v.to
  pub rising : Rising kept

-- so a scope is ready in one way at most
pub scope_ready_prop : (file kept : List ℕ) (v : ScopeView) → IsProp (ScopeReady file kept v)
scope_ready_prop file kept v p q i = record {
  params = le_prop p.params q.params i;
  marks = le_prop p.marks q.marks i;
  outer = le_prop p.outer q.outer i;
  ordered = le_prop p.ordered q.ordered i;
  rising = rising_prop kept p.rising q.rising i;
}
