-- `is_builtin_function`: the table is `builtins` by computation. Assumes nothing.
use Rattle.std.proofs.Common.{rules, tests}
use Rattle.std.proofs.lemmas.Iterator.{YieldsList-from_slice}
use Rattle.std.proofs.lemmas.Iterator.Search.{any_from_yields_List}
use Rattle.names.specs.Words.{same}
use Rattle.names.specs.Reserved.{builtins}
use Rattle.names.proofs.is_builtin_function.Goals as goal

pub returns : goal.returns
unfolding builtins
returns c = any_from_yields_List (λ w. same c.args.name.now w.now) _ _ _ c.any.ensures.ran (YieldsList-from_slice _ c.iter.ensures.rest) (λ x b q k. search (rules, tests))
