-- The records of a reading do not depend on where the bytes stand, but for their places. Assumes nothing.
use Rattle.std.proofs.Common.{◌≡◌, ℕ, ◌+◌, map, refl, add-zero, add_assoc}
use Rattle.records.specs.Trace.{Trace, done, refuse, emit, met, moved}

-- bytes that stand a further have their records a further
pub met-moved : (a b : ℕ) (t : Trace) → met (a + b) t ≡ map (moved a) (met b t)
unfolding met moved
met-moved a b done = refl
met-moved a b (refuse r) = refl
met-moved a b (emit role kind p bs t) = rw (add_assoc a b p, met-moved a b t)

pub met-from-0 : (b : ℕ) (t : Trace) → met b t ≡ map (moved b) (met 0 t)
met-from-0 b t = rw (add-zero b) at (met-moved b 0 t)
