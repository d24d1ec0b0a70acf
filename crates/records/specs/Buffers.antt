-- What a lent buffer holds once numbers were written into it, or it was cleared. Assumes nothing.
use Rattle.std.specs.Prelude.{ℕ, ◌+◌, List, ◌++◌, length, take, drop, replicate}

-- xs, and the rest of out as it was
unfoldable pub overlay : List ℕ → List ℕ → List ℕ
overlay xs out = xs ++ drop (length xs) out

-- out, with xs in it from slot k on, as far as it reaches
unfoldable pub fill : ℕ → List ℕ → List ℕ → List ℕ
fill k xs out = take (length out) (take k out ++ (xs ++ drop (k + length xs) out))

-- 0 in every slot of out
unfoldable pub cleared : List ℕ → List ℕ
cleared out = replicate (length out) 0
