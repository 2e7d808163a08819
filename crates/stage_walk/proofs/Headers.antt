-- The front of a file against the honest header.
use Rattle.std.proofs.Common.{◌≡◌, ℕ, ◌≤◌, min, List, [], length, take, Some, None}
use Rattle.std.proofs.Common.{inl, inr, refl, sym, ◌∙◌, ap, ap₂, subst, arith, ltb}
use Rattle.std.specs.declared.option.Option.{Option}
use Rattle.std.specs.Str.{bytes_eq}
use Rattle.std.proofs.lemmas.Bool.{cases_Bool, ltb-true}
use Rattle.std.proofs.lemmas.List.{length-take, take-take, drop_all}
use Rattle.stage_records.specs.Walks.{agrees, walk, walk_records}
use Rattle.stage_records.specs.Walks as walks
use Rattle.stage_records.proofs.Cuts.{walk-header, walk-presentation, walk-on, walk-nil}
use Rattle.stage_file.specs.Headers.{header_answer}
use Rattle.stage_file.specs.declared.headers.HeaderAnswer.{HeaderAnswer}
use Rattle.stage_file.specs.declared.headers.HeaderAnswer.TheVariants as answer
use Rattle.coho_io.specs.Pieces.{IsFrontFrom, IsPart}
use Rattle.stage_walk.specs.Turns.{GoesOn, EndsAtHeader, RefusesHeader}

same-agrees : (n : ℕ) (honest all : List ℕ) → n ≤ 40 → agrees n honest (take 40 all) ≡ agrees n honest all
unfolding agrees
same-agrees n honest all h =
    let m : min n (length (take 40 all)) ≡ min n (length all) = omega (arith, h, length-take 40 all) in
    ap₂ bytes_eq (take-take n 40 all h) (ap (λ k. take k honest) m)

-- what each answer says of the walk over all bytes
abbrev Says : List ℕ → List ℕ → HeaderAnswer → Type 0
Says honest all answer.Match = GoesOn honest all
Says honest all answer.Cut = EndsAtHeader honest all
Says honest all answer.Format = RefusesHeader honest walks.Header all
Says honest all answer.Presentation = RefusesHeader honest walks.Presentation all

pub header-says : (honest all : List ℕ) → Says honest all (header_answer honest (take 40 all))
header-says honest all =
    elim (cases_Bool (agrees 8 honest all)) [
      | inr f ↦ rw (same-agrees 8 honest all (omega arith), f)
          (λ records c. walk-header honest records c all f)
      | inl t ↦ elim (cases_Bool (agrees 40 honest all)) [
        | inr f ↦ rw (same-agrees 8 honest all (omega arith), t, same-agrees 40 honest all (omega arith), f)
            (λ records c. walk-presentation honest records c all t f)
        | inl u ↦ elim (cases_Bool (ltb (length (take 40 all)) 40)) [
          | inl s ↦ rw (
            same-agrees 8 honest all (omega arith),
            t,
            same-agrees 40 honest all (omega arith),
            u,
            s,
          )
              (λ records c. walk-on honest records c all t u
              ∙ ap (λ rest. walk_records records c 1 rest)
              (drop_all 40 all (omega (arith, length-take 40 all, ltb-true (length (take 40 all)) 40 s)))
              ∙ walk-nil records 1 c)
          | inr s ↦ rw (
            same-agrees 8 honest all (omega arith),
            t,
            same-agrees 40 honest all (omega arith),
            u,
            s,
          )
              (λ records c. walk-on honest records c all t u)
        ]
      ]
    ]

-- by the answer to the bytes that were read
pub says : (honest all front : List ℕ) (a : HeaderAnswer) → front ≡ take 40 all
    → a ≡ header_answer honest front → Says honest all a
says honest all front a e h =
    subst (Says honest all) (sym (h ∙ ap (header_answer honest) e)) (header-says honest all)

-- by the part of the file that was read
pub header_of : (o : Option (List ℕ)) (honest front : List ℕ) (a : HeaderAnswer) → IsPart o 0 40 front
    → a ≡ header_answer honest front → (all : List ℕ) × (o ≡ Some all) × Says honest all a
header_of None honest front a h e = absurd h
header_of (Some all) honest front a h e = (all, refl, says honest all front a h e)
