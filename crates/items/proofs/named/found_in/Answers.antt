-- `found_in`: a search over the items. Assumes nothing.
use Rattle.std.proofs.Common.{◌∙◌, rules, tests}
use Rattle.std.proofs.lemmas.Iterator.{YieldsList-from_slice}
use Rattle.std.proofs.lemmas.Iterator.Search.{any_from_yields_List}
use Rattle.records.specs.Numbers.{item_in}
use Rattle.items.specs.Search.{bears, found_among}
use Rattle.items.proofs.Searching.{any-items}
use Rattle.items.proofs.named.found_in.Goals as goal

pub returns : goal.returns
unfolding found_among
returns c =
    any_from_yields_List (λ x. bears c.args.sought c.args.name.now (item_in c.args.file.now x).what) _ _ _ c.any.ensures.ran
    (YieldsList-from_slice _ c.iter.ensures.rest) (λ x b q k. search (rules, tests))
    ∙ any-items (bears c.args.sought c.args.name.now) c.args.file.now c.args.items.now
