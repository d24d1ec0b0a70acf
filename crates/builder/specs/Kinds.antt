-- The kind bytes of the nodes that the programs put.
use Rattle.std.specs.Prelude.{ℕ}
use Rattle.builder.specs.declared.Kind.{Kind}
use Rattle.builder.specs.declared.Kind.TheVariants.{Output, Divert, Choice, Gather, Call}

-- the byte that a record of this kind begins with
abbrev pub kind_byte : Kind → ℕ
kind_byte Output = 2
kind_byte Divert = 3
kind_byte Choice = 14
kind_byte Gather = 15
kind_byte Call = 16
