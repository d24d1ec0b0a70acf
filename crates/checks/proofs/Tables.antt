-- The built-in words are 21, and the sort of a kept number is the one that has its number. Assumes nothing.
use mathlib.Core.Path.{◌≡◌, refl, sym, ap}
use mathlib.Core.List.{List, [], ◌∷◌}
use Prim.Native.Nat.{ℕ, zero, suc, ◌+◌, ◌/◌, ◌%◌, ◌≤◌, ◌<◌}
use native.Mathlib.Omega.{arith}
use lib.ListN.{length, get_or, get_or-eq_default}
use Rattle.names.specs.Reserved.{builtins}
use Rattle.records.specs.declared.sorts.Sort.{Sort as Kind}
use Rattle.records.specs.declared.sorts.Sort.TheVariants.{Plain as plain, Temp as temp, Divert as divert, Tunnel as tunnel, Thread as thread, Call as call, Variable as variable, Argument as argument, Choice as choice, Gather as gather, Parameter as parameter, StitchName as stitch_name, FlowStart as flow_start}
use Rattle.records.specs.Items.{code, labelled}
use Rattle.records.specs.Numbers.{bit, sorts, sort_in}

-- the words of is_builtin_function are 21
pub builtins-counted : length builtins ≡ 21
unfolding builtins
builtins-counted = refl

-- the numbers of the sorts follow each other, from k on
abbrev Follow : ℕ → List Kind → Type 0
Follow k [] = Unit {0}
Follow k (x ∷ l) = (code x ≡ k) × Follow (suc k) l

follow-at : (k : ℕ) (l : List Kind) (n : ℕ) → Follow k l → n < length l → code (get_or l n plain) ≡ k + n
follow-at k [] n f h = absurd (omega arith)
follow-at k (x ∷ l) zero f h = omega (arith, f.0)
follow-at k (x ∷ l) (suc n) f h = omega (arith, follow-at (suc k) l n f.1 (omega arith))

-- a number up to 9 is that of its sort
pub sort-there : (x : ℕ) → x / 1048576 % 16 ≤ 9 → x / 1048576 % 16 ≡ code (sort_in x)
unfolding sort_in
sort-there x h = omega (arith, follow-at 0 sorts (x / 1048576 % 16) (refl, (refl, (refl, (refl, (refl, (refl, (refl, (refl, (refl, (refl, tt)))))))))) (omega arith))

-- a greater one is that of no sort
pub sort-past : (x : ℕ) → 9 < x / 1048576 % 16 → 0 ≡ code (sort_in x)
unfolding sort_in
sort-past x h = sym (ap code (get_or-eq_default sorts plain h))

-- the label of a record is told by the number of its sort
pub label_there : (payload : List ℕ) (n : ℕ) (k : Kind) → n ≡ code k → bit (labelled (get_or sorts n plain) payload) ≡ bit (labelled k payload)
unfolding labelled
label_there payload n plain e = rw e
label_there payload n temp e = rw e
label_there payload n divert e = rw e
label_there payload n tunnel e = rw e
label_there payload n thread e = rw e
label_there payload n call e = rw e
label_there payload n variable e = rw e
label_there payload n argument e = rw e
label_there payload n choice e = rw e
label_there payload n gather e = rw e
label_there payload n parameter e = rw e
label_there payload n stitch_name e = rw e
label_there payload n flow_start e = rw e
