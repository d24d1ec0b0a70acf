-- The zeros that there is room for are the first of them.
use Rattle.std.proofs.Common.{rules, arith, ◌≡◌, ℕ, ◌-◌, length, take, min, replicate}
use Rattle.std.proofs.lemmas.List.{length-replicate, take_min, take-replicate}
use Rattle.std.proofs.lemmas.Slice.{overwrites}
use Rattle.builder.proofs.Builder.zeros.Goals as goal

-- the first of so many zeros
zeros_within : (m room n : ℕ) → m ≡ min n room → take room (replicate {A = ℕ} n 0) ≡ replicate m 0
zeros_within m room n is =
    let most : min room n ≡ m = omega (arith, is) in
    rw (← take_min, length-replicate, most) (take-replicate m n 0 (omega (arith, is)))

pub returns : goal.returns
returns c =
    let put = c.fill.ensures.after (λ y e. search rules) in
    let room = length c.self.inside.space.now - c.self.inside.end in
    let within = zeros_within c.min-many.result room c.args.n (omega (arith, c.min-many.ensures)) in
    rw (← c.self.view_is) (record {
      bytes = rw within (search (rules, overwrites, put));
      room = search (rules, overwrites, put, c.min-many.ensures);
    })
