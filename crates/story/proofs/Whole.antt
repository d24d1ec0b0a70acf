-- A readable file is its pieces from its first byte to its last, and its story has each record that the reading met, once. Assumes nothing.
use Rattle.std.specs.Prelude.{Ok}
use mathlib.Core.Path.{◌≡◌, refl, sym, ◌∙◌, ap}
use mathlib.Core.List.{List, ◌++◌}
use Prim.Native.Nat.{ℕ}
use native.Mathlib.Omega.{arith}
use lib.ListN.{drop}
use Rattle.records.specs.Trace.{well, ends}
use Rattle.story.specs.declared.Sections.{Sections}
use Rattle.story.specs.Flows.{flow, part, flow_in, flows_in}
use Rattle.story.specs.File.{sections_read, read_of, story_in}
use Rattle.story.specs.Whole.{IsFlow, Whole}
use Rattle.story.proofs.Readable.{Readable, readable, flows-pieces}
use Rattle.story.proofs.Opening.{sections-well}
use Rattle.story.proofs.StoryItems.{story-items}
use Rattle.story.proofs.Standing.{story-rises}
use Rattle.story.proofs.JoinedBytes.{part-rest, names-joined, pieces-joined, are-nodes}
use Rattle.story.proofs.JoinedFlows.{is-flow}

module _ (c : Sections) (s : List ℕ) (r : Readable c s) (good : ends (sections_read c s) ≡ well) where
  -- the sections and the trailer
  sections-joined : s ≡ part 0 c.externals s ++ (part c.externals c.root s ++ (part c.root c.flows s ++ (part c.flows c.end s ++ drop c.end s)))
  sections-joined =
      part-rest 0 c.externals s (omega arith)
      ∙ ap (λ (u : List ℕ). part 0 c.externals s ++ u) (part-rest c.externals c.root s r.order.externals
      ∙ ap (λ (u : List ℕ). part c.externals c.root s ++ u) (part-rest c.root c.flows s r.order.root
      ∙ ap (λ (u : List ℕ). part c.root c.flows s ++ u) (part-rest c.flows c.end s r.order.flows)))

  -- all of it
  readable-whole : Whole c s
  unfolding story_in flows_in
  readable-whole = record {
    sections = sections-joined;
    order = r.order;
    globals = names-joined 0 (part 0 c.externals s) r.globals;
    externals = names-joined c.externals (part c.externals c.root s) r.externals;
    root = are-nodes c.root (part c.root c.flows s) r.root;
    flows = pieces-joined flow flow_in IsFlow is-flow c.flows (part c.flows c.end s) (sym (flows-pieces (part c.flows c.end s)) ∙ r.flows);
    items = sym (story-items c s good);
    once = story-rises c s r.order good;
  }

-- A READABLE FILE is its pieces, and its story has all that reading met
pub whole : (file : List ℕ) (c : Sections) → read_of file ≡ Ok c → Whole c file
whole file c told = readable-whole c file (readable file c refl told) (sections-well file c told)
