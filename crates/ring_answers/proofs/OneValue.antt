-- Values of cocycles: there is one, the class is there or it is not, and classes are cocycles up to
-- coboundaries.
use Rattle.std.proofs.Common.{◌∙◌, ◌⊎◌, inl, inr, ℕ, List, length, refl, sym, arith}
use Rattle.std.proofs.lemmas.Bool.{cases_lt}
use Rattle.std.specs.Prelude.{⊤}
use Rattle.p_groups.specs.PGroups.{PGroup}
use Rattle.min_res.specs.Stages.{rank_of}
use Rattle.bar_eval.specs.ClassMap.{value_at}
use Rattle.ring_answers.specs.Evaluating.{basis_class, HasClass, IsClassRefusal, IsValue}
use Rattle.coho_steps.specs.Refusals.{class_refused}
use Rattle.coho_steps.specs.Steps.{Refusal}
use Rattle.coho_steps.proofs.Proper.{IsDecided}

class_or_fewer : (G : PGroup) (d k : ℕ)
    → ((x : Unit {0}) × HasClass G d k) ⊎ ((q : Refusal) × IsClassRefusal G d k q)
class_or_fewer G d k = elim (cases_lt (rank_of G d) k) [
  | inl fewer ↦ inr (class_refused d (rank_of G d), (fewer, refl))
  | inr has ↦ inl (tt, has)
]

not_both : (G : PGroup) (d k : ℕ) (q : Refusal) → HasClass G d k → IsClassRefusal G d k q → ⊥
not_both G d k q has fewer = let less = fewer.0 in omega (arith, has, less)

pub class_decided : (d k : ℕ) → IsDecided ⊤ (λ G (x : Unit {0}). HasClass G d k)
    (λ G refusal. IsClassRefusal G d k refusal)
class_decided d k = record {
  one_value = λ G x y a b. refl;
  one_refusal = λ G q r a b. a.1 ∙ sym b.1;
  not_both = λ G x q a b. not_both G d k q a b;
  some = λ G. class_or_fewer G d k;
  keeps = λ G q a e. tt;
}

pub value_decided : (k : ℕ) (es : List ℕ) → IsDecided ⊤ (λ G (v : ℕ). IsValue G k es v)
    (λ G (refusal : Refusal). ⊥)
value_decided k es = record {
  one_value = λ G v w a b. a ∙ sym b;
  one_refusal = λ G q r a b. absurd a;
  not_both = λ G v q a b. b;
  some = λ G. inl (value_at G (basis_class G (length es) k) es, refl);
  keeps = λ G q a e. tt;
}
