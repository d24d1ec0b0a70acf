-- `tables::functions::put_flow` meets its contract. Assumes nothing.
use native.Mathlib.Omega.{arith}
use Rattle.tables.proofs.Seeking.{vacant-inside}
use Rattle.tables.proofs.Filling.{flow-written}
use borrow.Author.Rules.{rules}
use Rattle.tables.proofs.functions.put_flow.Goals as goal

pub offset_bounds-table-slot : goal.offset_bounds-table-slot
offset_bounds-table-slot c =
    let seek = c.seek_name in
    let i = vacant-inside c.args.file.now c.args.table.now _ c.requires.0 seek.ensures c.in-Vacant.is in search (rules, i)

pub bounds-table-slot : goal.bounds-table-slot
bounds-table-slot c =
    let seek = c.seek_name in
    let i = vacant-inside c.args.file.now c.args.table.now _ c.requires.0 seek.ensures c.in-Vacant.is in omega arith

pub returns-in-Vacant : goal.returns-in-Vacant
returns-in-Vacant c =
    let if1 = c.if-v in
    let name-at = c.name_at in
    let seek = c.seek_name in
    flow-written c.args.file.now c.args.v c.args.table.now seek.ensures c.in-Vacant.is if1.true name-at.ensures
