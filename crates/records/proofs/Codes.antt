-- The number of a sort is the tag of the code's `Sort`, and equal sorts are told by their numbers. Assumes nothing.
use Rattle.std.proofs.Common.{◌≡◌, Bool, true, false, refl, sym, ap, ◌∙◌, eqb-true}
use denote.Enum.Declared.{tag_of}
use denote.Enum.Bare.{sameb, same_true, same_false, false_same}
use Rattle.records.specs.contracts.sorts.Sort.{the_type}
use Rattle.records.specs.declared.sorts.Sort.{Sort as Kind}
use Rattle.records.specs.declared.sorts.Sort.TheVariants.{Plain as plain, Temp as temp, Divert as divert, Tunnel as tunnel, Thread as thread, Call as call, Variable as variable, Argument as argument, Choice as choice, Gather as gather, Parameter as parameter, StitchName as stitch_name, FlowStart as flow_start}
use Rattle.records.specs.Items.{code, same_kind}

-- the tag is the number
pub tag_code : (k : Kind) → tag_of the_type k ≡ code k
tag_code plain = refl
tag_code temp = refl
tag_code divert = refl
tag_code tunnel = refl
tag_code thread = refl
tag_code call = refl
tag_code variable = refl
tag_code argument = refl
tag_code choice = refl
tag_code gather = refl
tag_code parameter = refl
tag_code stitch_name = refl
tag_code flow_start = refl

-- so `==` of the code is the test on the numbers
pub same_code : (a b : Kind) → sameb the_type a b ≡ same_kind a b
same_code a b = rw (tag_code a, tag_code b) refl

-- a sort of that number is that sort
pub code_one : (a b : Kind) → same_kind a b ≡ true → a ≡ b
code_one a b e = same_true the_type tt a b (same_code a b ∙ e)

-- another sort has another number
pub other_code : (a b : Kind) → (a ≡ b → ⊥) → same_kind a b ≡ false
other_code a b f = sym (same_code a b) ∙ false_same the_type tt a b f

-- the tag of a sort that was found
pub tag_found : {s k : Kind} → s ≡ k → tag_of the_type s ≡ code k
tag_found {s} {k} e = ap (tag_of the_type) e ∙ tag_code k

-- the sort is plain, or is not, by the test of the code
pub tag_plain : (s : Kind) {b : Bool} → b ≡ sameb the_type s plain → b ≡ true → tag_of the_type s ≡ 0
tag_plain s e t = eqb-true (tag_of the_type s) 0 (sym e ∙ t)

pub tag_other : (s : Kind) {b : Bool} → b ≡ sameb the_type s plain → b ≡ false → tag_of the_type s ≡ 0 → ⊥
tag_other s e f z = same_false the_type s plain (sym e ∙ f) (same_true the_type tt s plain (rw z refl))
