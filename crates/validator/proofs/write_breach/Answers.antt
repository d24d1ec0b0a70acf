-- `validator::write_breach` meets its contract: its text is the rule's, with the names at the two places. Assumes nothing.
use borrow.Author.Rules.{rules}
use Rattle.validator.proofs.Texts.{name-fits, told}
use Rattle.validator.proofs.write_breach.Goals as goal

pub write_message-size-requires : goal.write_message-size-requires
write_message-size-requires c =
    let args = c.args in
    record { first_len_bound = name-fits args.file.now args.b.first c.name_at.ensures (c.type_inv.file args.b.first).fits; second_len_bound = name-fits args.file.now args.b.second c.name_at-2.ensures (c.type_inv.file args.b.second).fits; in_bounds = search rules }

pub returns : goal.returns
returns c =
    told c.name_at.ensures c.name_at-2.ensures c.write_message-size.ensures
