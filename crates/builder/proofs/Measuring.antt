-- A number set in place of another.
use Rattle.std.proofs.Common.{◌≡◌, ℕ, ◌+◌, ◌-◌, ◌≤◌, List, ◌++◌, length, take, drop, refl, ap, sym, ◌∙◌, arith, rules}
use Rattle.std.proofs.lemmas.List.{take-take, drop-take, length-take-le}
use Rattle.std.proofs.lemmas.Slice.{take-put_mid, take-put_mid_below, drop-put_mid, overwrites}
use borrow.Rule.Slice.PartMut.{put_mid}
use Rattle.builder.specs.Building.{Measures, number}

length-number : (n : ℕ) → length (number n) ≡ 4
unfolding number
length-number n = refl

length-kept : (place k : ℕ) (xs ys : List ℕ) → length ys ≡ k → place + k ≤ length xs → length (put_mid place k xs ys) ≡ length xs
length-kept place k xs ys size within = search (rules, overwrites)

before_kept : (place end k : ℕ) (xs ys : List ℕ) → place ≤ end → end ≤ length xs → take place (take end (put_mid place k xs ys)) ≡ take place (take end xs)
before_kept place end k xs ys fits within =
    take-take place end _ fits ∙ take-put_mid_below place k xs ys place (omega arith) (omega arith) ∙ sym (take-take place end xs fits)

number_at : (place end k : ℕ) (xs ys : List ℕ) → length ys ≡ 4 → place + 4 ≤ end → end ≤ length xs → take (place + 4) (take end (put_mid place k xs ys)) ≡ take place (take end xs) ++ ys
number_at place end k xs ys four fits within =
    take-take (place + 4) end _ fits
    ∙ take-put_mid place k xs ys (place + 4) (omega arith) (omega arith)
    ∙ ap (λ l. l ++ ys) (sym (take-take place end xs (omega arith)))

drop_front : (m end : ℕ) (xs : List ℕ) → m ≤ end → drop m (take end xs) ≡ take (end - m) (drop m xs)
drop_front m end xs fits =
    let e : end ≡ m + (end - m) = omega arith in
    ap (λ n. drop m (take n xs)) e ∙ drop-take m (end - m) xs

after_kept : (place end k : ℕ) (xs ys : List ℕ) → k ≡ 4 → length ys ≡ k → place + 4 ≤ end → end ≤ length xs → drop (place + 4) (take end (put_mid place k xs ys)) ≡ drop (place + 4) (take end xs)
after_kept place end k xs ys four size fits within =
    drop_front (place + 4) end _ fits
    ∙ ap (take (end - (place + 4))) (drop-put_mid place k xs ys (place + 4) (omega arith) (omega arith) size)
    ∙ sym (drop_front (place + 4) end xs fits)

pub measured : (place end k : ℕ) (xs ys : List ℕ) → k ≡ 4 → ys ≡ number (end - place - 4) → place + 4 ≤ end → end ≤ length xs → Measures place (record { bytes = take end xs; room = length xs - end }) (record { bytes = take end (put_mid place k xs ys); room = length (put_mid place k xs ys) - end })
measured place end k xs ys same is fits within =
    let four : length ys ≡ 4 = ap length is ∙ length-number _ in
    let kept = length-kept place k xs ys (four ∙ sym same) (omega arith) in
    let size = length-take-le end xs within in
    record {
      before = before_kept place end k xs ys (omega arith) within;
      length_is = λ h. number_at place end k xs ys four fits within ∙ ap (λ l. take place (take end xs) ++ l) (is ∙ ap (λ n. number (n - place - 4)) (sym size));
      after = after_kept place end k xs ys same (four ∙ sym same) fits within;
      size = length-take-le end (put_mid place k xs ys) (omega arith) ∙ sym size;
      room = ap (λ n. n - end) kept;
    }
