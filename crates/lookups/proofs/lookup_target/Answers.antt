-- `lookups::lookup_target` meets its contract, by its tests in the order of preference. Assumes nothing.
use Rattle.lookups.specs.Results.{answer_of}
use Rattle.lookups.specs.Lookup.{target_of}
use Rattle.lookups.proofs.Answers.{function-answer}
use Rattle.lookups.proofs.lookup_target.Goals as goal

pub returns-then-passes : goal.returns-then-passes
unfolding answer_of target_of
returns-then-passes c = rw (← c.passes.ensures, c.if-passes.true)

pub returns-then-is_function_name : goal.returns-then-is_function_name
unfolding answer_of target_of
returns-then-is_function_name c =
    let passes = c.passes in
    let if1 = c.if-passes in
    rw (← passes.ensures, if1.false, ← function-answer c.args.source.now.sections c.args.source.now.file.now c.args.target.now c.is_function_name.ensures, c.if-is_function_name.true)

pub returns-then-is_reserved : goal.returns-then-is_reserved
unfolding answer_of target_of
returns-then-is_reserved c =
    let passes = c.passes in
    let if1 = c.if-passes in
    let is-function-name = c.is_function_name in
    rw (← passes.ensures, if1.false, ← function-answer c.args.source.now.sections c.args.source.now.file.now c.args.target.now is-function-name.ensures, c.if-is_function_name.false, ← c.is_reserved.ensures, c.if-is_reserved.true)

pub returns : goal.returns
unfolding target_of
returns c =
    let passes = c.passes in
    let if1 = c.if-passes in
    let is-function-name = c.is_function_name in
    let if2 = c.if-is_function_name in
    rw (← passes.ensures, if1.false, ← function-answer c.args.source.now.sections c.args.source.now.file.now c.args.target.now is-function-name.ensures, if2.false, ← c.is_reserved.ensures, c.if-is_reserved.false) c.lookup_entry.ensures
