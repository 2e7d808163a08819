-- Where a text stops to go on.
use Rattle.std.proofs.Common.{◌≡◌, ℕ, ◌+◌, ◌<◌, ◌≤◌, true, false, List, [], ◌∷◌, ◌++◌, length, take, get_or}
use Rattle.std.proofs.Common.{Option, None, Some, arith, ap, sym, subst, ◌∙◌, refl}
use Rattle.std.specs.Option.{option_and_then}
use Rattle.std.proofs.lemmas.Bool.{false≢true}
use Rattle.std.proofs.lemmas.List.{take_more, take_all}
use Rattle.polynomial_texts.specs.Grammar.{Sum, IsTextOf, GoesOn, Stops}
use Rattle.polynomial_reader.specs.declared.syntax.State.{State}
use Rattle.polynomial_reader.specs.declared.syntax.State.TheVariants.{Start, Zero, One, Coefficient}
use Rattle.polynomial_reader.specs.declared.syntax.State.TheVariants.{TermStart, FactorStart, Name, Caret}
use Rattle.polynomial_reader.specs.declared.syntax.State.TheVariants.{ExponentDigit, Exponent}
use Rattle.polynomial_reader.specs.Automaton.{after, run, is_end}
use Rattle.polynomial_reader.proofs.Running.{run-append, run-on, IsAccepted, text-accepted, goes-on-runs}
use Rattle.polynomial_reader.proofs.Accepting.{accepted-text}

-- bytes that end a text from a state on
ending : (q : ℕ) (s : State) → (v : List ℕ) × IsAccepted q s v
ending q Start = (48 ∷ [], (Zero, refl, refl))
ending q Zero = ([], (Zero, refl, refl))
ending q One = ([], (One, refl, refl))
ending q Coefficient = (42 ∷ 97 ∷ [], (Name, refl, refl))
ending q TermStart = (97 ∷ [], (Name, refl, refl))
ending q FactorStart = (97 ∷ [], (Name, refl, refl))
ending q Name = ([], (Name, refl, refl))
ending q Caret = (49 ∷ [], (ExponentDigit 1, refl, refl))
ending q (ExponentDigit c) = ([], (ExponentDigit c, refl, refl))
ending q Exponent = ([], (Exponent, refl, refl))

module _ (q : ℕ) (text : List ℕ) (m : q ≤ 6) (l : 1 ≤ q) where
  state-goes-on : (front : List ℕ) (s : State) → run q Start front ≡ Some s → GoesOn q front
  state-goes-on front s h = let c = ending q s in let r = accepted-text q (front ++ c.0) m l
      (c.1.0, run-on q Start s c.1.0 front c.0 h c.1.1, c.1.2) in (c.0, r.0, r.1)

  one-step : (o : Option State) → option_and_then (λ t. run q t []) o ≡ o
  one-step None = refl
  one-step (Some t) = refl

  -- the state behind one more byte
  pub next-state : (i : ℕ) (s : State) → i < length text → run q Start (take i text) ≡ Some s
      → run q Start (take (i + 1) text) ≡ after q s (get_or text i 0)
  next-state i s k h = ap (run q Start) (take_more text i 0 k)
      ∙ run-append q Start (take i text) (get_or text i 0 ∷ [])
      ∙ ap (option_and_then (λ t. run q t (get_or text i 0 ∷ []))) h ∙ one-step (after q s (get_or text i 0))

  pub stops-at : (i : ℕ) (s : State) → i < length text → run q Start (take i text) ≡ Some s
      → after q s (get_or text i 0) ≡ None → Stops q text i
  stops-at i s k h n = record {
    within = omega arith;
    before = state-goes-on (take i text) s h;
    byte = λ _ g. goes-on-runs q (take (i + 1) text) m g (next-state i s k h ∙ n);
    ending = λ e. absurd (omega arith);
  }

  whole : (i : ℕ) → i ≡ length text → take i text ≡ text
  whole i e = take_all i text (omega arith)

  pub stops-end : (i : ℕ) (s : State) → i ≡ length text → run q Start (take i text) ≡ Some s
      → is_end s ≡ false → Stops q text (length text)
  stops-end i s e h n = record {
    within = omega arith;
    before = subst (λ n. GoesOn q (take n text)) e (state-goes-on (take i text) s h);
    byte = λ k. absurd (omega arith);
    ending = λ _ x t. let r = text-accepted q x text m t in let z : s ≡ r.0 =
        cc (sym h ∙ ap (run q Start) (whole i e) ∙ r.1) in false≢true
        (sym n ∙ ap is_end z ∙ r.2);
  }

  pub text-ends : (i : ℕ) (s : State) → i ≡ length text → run q Start (take i text) ≡ Some s → is_end s ≡ true
      → (x : Sum) × IsTextOf q x text
  text-ends i s e h n = accepted-text q text m l (s, ap (run q Start) (sym (whole i e)) ∙ h, n)
