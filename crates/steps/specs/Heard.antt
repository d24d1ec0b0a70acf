-- Inner contract. What is heard along the runs of a story: breaches one after the other, up to a limit, counted, and written to a list.
-- Assumes nothing.
use Rattle.std.specs.Prelude as core
use Rattle.std.specs.Prelude.{None, Some, ℕ, ◌+◌, ◌-◌, ◌*◌, ◌/◌, ◌%◌, Bool, List, [], ◌∷◌, length, leb, ltb, eqb}
use Rattle.std.proofs.Math.Option.{Option, none, some}
use Rattle.std.proofs.lemmas.List.Edits.{sets}
use Rattle.fields.specs.Bytes.{pick}
use Rattle.story.specs.Story.{Story}
use Rattle.rules.specs.declared.Rule.{Rule}
use Rattle.rules.specs.Rules.{number}
use Rattle.rules.specs.Steps.{Run, Breach, breaks, breach, in_run, Numbered, Visit}
use Rattle.steps.specs.declared.Tally.{Tally}
use Rattle.steps.specs.declared.Names.{Names}
use Rattle.steps.specs.declared.Last.{Last}

-- 1. A TALLY

-- nothing heard yet, before the first run
abbrev pub fresh : ℕ → Tally
fresh limit = record { limit = limit; count = 0; instance = 0; last = None }

-- as many breaches were heard as may be
abbrev pub is_full : Tally → Bool
is_full t = leb t.limit t.count

-- the places of a breach's names
abbrev pub names_at : ℕ × ℕ → Names
names_at names = record { first = names.0; second = names.1 }

-- the breach as a tally has it
abbrev pub last_of : Breach → Last
last_of b = record { rule = b.rule; place = b.place; names = names_at b.names }

-- one breach more, which is the last
abbrev pub counted : Tally → Breach → Tally
counted t b = record { limit = t.limit; count = t.count + 1; instance = t.instance; last = Some (last_of b) }

-- the number of the run so many runs later, at most 4294967295
unfoldable pub onward : ℕ → ℕ → ℕ
onward instance many = instance + pick (ltb many (4294967295 - instance)) many (4294967295 - instance)

-- in the run of another number
abbrev pub in_instance : ℕ → Tally → Tally
in_instance n t = record { limit = t.limit; count = t.count; instance = n; last = t.last }

-- so many runs that find nothing, where it is not full
unfoldable pub passed : ℕ → Tally → Tally
passed n t = pick (is_full t) t (in_instance (onward t.instance n) t)

-- the breach of a rule at a place
abbrev pub breach_of : ℕ → Rule → ℕ → ℕ × ℕ → Breach
breach_of instance rule place names = record { instance = instance; rule = rule; place = place; names = names }

-- 2. THE LIST

-- four numbers for a breach: the rule's number, the number of the run, the place, 0; of the middle two their last 32 bits
abbrev pub four : ℕ → ℕ → ℕ → List ℕ
four rule instance place = rule ∷ (instance % 4294967296) ∷ (place % 4294967296) ∷ 0 ∷ []

-- the numbers of breach number n, where there is room for them
unfoldable pub written : ℕ → ℕ → ℕ → ℕ → List ℕ → List ℕ
written n rule instance place list = pick (ltb n (length list / 4)) (sets list (4 * n) (four rule instance place)) list

-- the four numbers of a breach
abbrev pub four_of : Breach → List ℕ
four_of b = four (number b.rule) b.instance b.place

-- 3. HEARING

-- what was heard: the tally, and the list
pub record Heard : Type 0 where
  pub tally : Tally
  pub list : List ℕ

-- the two together
abbrev pub heard : Tally → List ℕ → Heard
heard t list = record { tally = t; list = list }

-- no more is heard
abbrev pub full : Heard → Bool
full h = is_full h.tally

-- a breach, counted and written
abbrev pub added : Heard → Breach → Heard
added h b = heard (counted h.tally b) (written h.tally.count (number b.rule) b.instance b.place h.list)

-- a breach: heard where it is not full
unfoldable pub hear : Heard → Breach → Heard
hear h b = pick (full h) h (added h b)

-- breaches one after the other
unfoldable pub hear_all : Heard → List Breach → Heard
hear_all h [] = h
hear_all h (b ∷ bs) = hear_all (hear h b) bs

-- so many runs that find nothing
abbrev pub pass : ℕ → Heard → Heard
pass n h = heard (passed n h.tally) h.list

-- the run at hand, as numbered
abbrev pub run_now : Heard → Run → Numbered Run
run_now h u = record { no = h.tally.instance; it = u }

-- THE RUNS one after the other: all that each of them finds, and the number of the next
unfoldable pub hear_runs : Story → Heard → List Run → Heard
hear_runs s h [] = h
hear_runs s h (u ∷ us) = hear_runs s (pass 1 (hear_all h (in_run s (run_now h u)))) us

-- 4. ONE VISIT

-- a rule at what a run visits: heard where it is broken
unfoldable pub hear_rule : Story → Numbered Run → Visit → Heard → Rule → Heard
hear_rule s u v h r = pick (breaks s u.it v r) (hear h (breach u v r)) h

-- rules one after the other
unfoldable pub hear_rules : Story → Numbered Run → Visit → Heard → List Rule → Heard
hear_rules s u v h [] = h
hear_rules s u v h (r ∷ rs) = hear_rules s u v (hear_rule s u v h r) rs

-- 5. WHAT IS TOLD

-- a breach without the number of its run: rule, place, and the places of the names for its text
pub record Told : Type 0 where
  pub rule : Rule
  pub place : ℕ
  pub first : ℕ
  pub second : ℕ

-- the breach as told
abbrev pub told_of : Breach → Told
told_of b = record { rule = b.rule; place = b.place; first = b.names.0; second = b.names.1 }

-- the last breach as told
abbrev pub last_told : core.Option Last → Option Told
last_told None = none
last_told (Some l) = some (record { rule = l.rule; place = l.place; first = l.names.first; second = l.names.second })

-- the last breach of a tally, where it has one; none exactly where nothing was heard
unfoldable pub told : Tally → Option (Option Told)
told t = pick (eqb t.count 0) none (some (last_told t.last))

-- a verdict as told
unfoldable pub told_verdict : Option Breach → Option (Option Told)
told_verdict none = none
told_verdict (some b) = some (some (told_of b))
