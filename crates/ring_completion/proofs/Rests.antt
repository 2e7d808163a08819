-- Polynomials over a list that differ from others by consequences, and the vectors of their coefficients.
use Rattle.std.proofs.Common.{◌≡◌, ℕ, zero, suc, ◌+◌, ◌*◌, ◌<◌, ◌≤◌, List, [], ◌++◌, length, ◌⊎◌, inl, inr}
use Rattle.std.proofs.Common.{arith, ap, ap₂, sym, ◌∙◌, refl}
use Rattle.std.specs.Prelude.{slice_index_or}
use Rattle.std.proofs.Math.Path.{fun_ext}
use Rattle.linear_algebra.specs.Modular.{IsCongruent, sum_below}
use Rattle.linear_algebra.specs.Rows.{entry, row, IsRow}
use Rattle.linear_algebra.proofs.Congruences.{congruent_refl, congruent_eq, congruent_trans, congruent_sym}
use Rattle.linear_algebra.proofs.Congruences.{congruent_add, congruent_mul_left, congruent_mod, to_congruent}
use Rattle.graded_polynomials.specs.Monomials.{IsMonomial}
use Rattle.graded_polynomials.specs.Polynomials.{Term, Polynomial, coefficient, scaled, IsOver, IsSame}
use Rattle.graded_polynomials.proofs.Terms.{each-append, over-scaled, coefficient-append, coefficient-scaled}
use Rattle.graded_polynomials.proofs.Terms.{occurs}
use Rattle.graded_algebra.specs.Algebras.{Generator, degrees, times}
use Rattle.graded_algebra.specs.Presentations.{IsConsequence}
use Rattle.graded_algebra.specs.Vectors.{Below, Vector, residue, vectors}
use Rattle.graded_algebra.proofs.Ideals.{ideal-same, ideal-zero, ideal-scaled, ideal-append}
use Rattle.graded_algebra.proofs.Vectors.{zero-add, times-one}
use Rattle.graded_algebra.proofs.VectorLemmas.{plus-residue, vector-space}
use Rattle.presentation_rows.specs.RowPolynomials.{polynomial_of, row_of}
use Rattle.presentation_rows.specs.Values.{vector}
use Rattle.presentation_rows.proofs.RowTerms.{coefficient-at, entry-row-of}
use Rattle.presentation_rows.proofs.RowValues.{times-residue}
use Rattle.ring_completion.specs.Candidates.{AreSome, IsListed}
use Rattle.ring_completion.proofs.ListRows.{listed-apart, listed-or-zero, over-list}
use Rattle.ring_completion.proofs.ListVectors.{coefficients, coefficients-plus, coefficients-empty}
use Rattle.ring_completion.proofs.ListVectors.{coefficients-of-row}

module _ (q : ℕ) (mul : ℕ → ℕ → Vector q → Vector q → Vector q) (gs : List (Generator (Vector q))) (d : ℕ)
    (rs : List Polynomial)
    (ms : List (List ℕ)) (C : AreSome q (degrees gs) d ms) where
  abbrev pub T : List Term → Type 0
  T f = IsConsequence q (vectors q mul) gs rs d f

  pub plus : (f t : List Term) (c : ℕ) → T f → T t → T (f ++ scaled c t)
  plus f t c a b = record {
    over = each-append (λ (t : Term). IsMonomial q (degrees gs) d t.monomial) f (scaled c t) a.over
        (over-scaled q (degrees gs) d c t b.over);
    ideal = ideal-append q (degrees gs) rs d f (scaled c t) a.ideal
        (ideal-scaled q (degrees gs) rs d c t b.ideal);
  }

  pub same-consequence : (f g : List Term) → IsOver q (degrees gs) d g → IsSame q g f → T f → T g
  same-consequence f g o h t = record { over = o; ideal = ideal-same q (degrees gs) rs d f g h t.ideal }

  pub zero-consequence : T []
  zero-consequence = record { over = tt; ideal = ideal-zero q (degrees gs) rs d [] (λ m. congruent_refl 0) }

  pub over-plus : (f g : List Term) (c : ℕ) → IsOver q (degrees gs) d f → IsOver q (degrees gs) d g
      → IsOver q (degrees gs) d (f ++ scaled c g)
  over-plus f g c o p = each-append (λ (t : Term). IsMonomial q (degrees gs) d t.monomial) f (scaled c g) o
      (over-scaled q (degrees gs) d c g p)

  pub at-plus : (f g : List Term) (c : ℕ) (m : List ℕ) → coefficient (f ++ scaled c g) m
      ≡ coefficient f m + c * coefficient g m
  at-plus f g c m = coefficient-append f (scaled c g) m
      ∙ ap (λ z. coefficient f m + z) (coefficient-scaled c g m)

  abbrev pub Clean : List Term → Type 0
  Clean f = (m : List ℕ) → IsMonomial q (degrees gs) d m
      → IsListed ms m ⊎ IsCongruent (suc q) (coefficient f m) 0

  pub clean-plus : (f g : List Term) (c : ℕ) → Clean f → Clean g → Clean (f ++ scaled c g)
  clean-plus f g c x y m M = go (x m M) (y m M)
    where
      go : IsListed ms m ⊎ IsCongruent (suc q) (coefficient f m) 0
          → IsListed ms m ⊎ IsCongruent (suc q) (coefficient g m) 0
          → IsListed ms m ⊎ IsCongruent (suc q) (coefficient (f ++ scaled c g) m) 0
      go (inl i) o = inl i
      go (inr a) (inl i) = inl i
      go (inr a) (inr b) = inr
          (congruent_trans (congruent_eq (at-plus f g c m))
          (congruent_trans (congruent_add a (congruent_mul_left c b)) (congruent_eq (omega arith))))

  -- v are the coefficients of a polynomial over the list that differs from f by a consequence
  pub record IsRest (f : List Term) (v : Vector q) : Type 0 where
    pub polynomial : List Term
    pub over : IsOver q (degrees gs) d polynomial
    pub clean : Clean polynomial
    pub vector_is : coefficients q mul ms polynomial ≡ v
    pub difference : T (f ++ scaled q polynomial)

  pub rest-zero : IsRest [] (vectors q mul).zero
  rest-zero = record {
    polynomial = [];
    over = tt;
    clean = λ m M. inr (congruent_refl 0);
    vector_is =
        coefficients-empty q mul ms;
    difference = zero-consequence;
  }

  pub rest-plus : (f h : List Term) (v w : Vector q) (c : ℕ) → IsOver q (degrees gs) d f
      → IsOver q (degrees gs) d h → IsRest f v → IsRest h w
      → IsRest (f ++ scaled c h) ((vectors q mul).add v (times (vectors q mul) c w))
  rest-plus f h v w c o p a b = record {
    polynomial = a.polynomial ++ scaled c b.polynomial;
    over = over-plus a.polynomial b.polynomial c a.over b.over;
    clean = clean-plus a.polynomial b.polynomial c a.clean b.clean;
    vector_is = coefficients-plus q mul ms a.polynomial b.polynomial c
        ∙ ap₂ (λ x y. (vectors q mul).add x (times (vectors q mul) c y)) a.vector_is b.vector_is;
    difference = same-consequence ((f ++ scaled q a.polynomial) ++ scaled c (h ++ scaled q b.polynomial))
        ((f ++ scaled c h) ++ scaled q (a.polynomial ++ scaled c b.polynomial))
        (over-plus (f ++ scaled c h) (a.polynomial ++ scaled c b.polynomial) q (over-plus f h c o p)
        (over-plus a.polynomial b.polynomial c a.over b.over))
        (record {
          at = λ m. congruent_eq
              (let x = at-plus (f ++ scaled c h) (a.polynomial ++ scaled c b.polynomial) q m in let y =
              at-plus f h c m in
              let z = at-plus a.polynomial b.polynomial c m in let x' =
              at-plus (f ++ scaled q a.polynomial) (h ++ scaled q b.polynomial) c m in
              let y' = at-plus f a.polynomial q m in let z' = at-plus h b.polynomial q m in
              x ∙ ap₂ (λ s t. s + q * t) y z ∙ exchanged (coefficient f m) (coefficient h m)
              (coefficient a.polynomial m) (coefficient b.polynomial m)
              ∙ sym (x' ∙ ap₂ (λ s t. s + c * t) y' z'));
        })
        (plus (f ++ scaled q a.polynomial) (h ++ scaled q b.polynomial) c a.difference b.difference);
  }
    where
      exchanged : (f h a b : ℕ) → (f + c * h) + q * (a + c * b) ≡ (f + q * a) + c * (h + q * b)
      exchanged f h a b = omega arith

  pub rest-same : (f h : List Term) (v : Vector q) → IsOver q (degrees gs) d h → IsSame q h f → IsRest f v
      → IsRest h v
  rest-same f h v o e a = record {
    polynomial = a.polynomial;
    over = a.over;
    clean = a.clean;
    vector_is = a.vector_is;
    difference = same-consequence (f ++ scaled q a.polynomial) (h ++ scaled q a.polynomial)
        (over-plus h a.polynomial q o a.over)
        (record {
          at = λ m. congruent_trans (congruent_eq (at-plus h a.polynomial q m))
              (congruent_trans (congruent_add (e.at m) (congruent_refl _))
              (congruent_eq (sym (at-plus f a.polynomial q m))));
        }) a.difference;
  }

  -- v are the coefficients of a consequence over the list
  pub record IsVector (v : Vector q) : Type 0 where
    pub polynomial : List Term
    pub clean : Clean polynomial
    pub vector_is : coefficients q mul ms polynomial ≡ v
    pub consequence : T polynomial

  pub vector-of-rest : (f : List Term) (v : Vector q) → T f → IsRest f v → IsVector v
  vector-of-rest f v t a = record {
    polynomial = a.polynomial;
    clean = a.clean;
    vector_is = a.vector_is;
    consequence = same-consequence (f ++ scaled q (f ++ scaled q a.polynomial)) a.polynomial a.over
        (record {
          at = λ m. congruent_sym
              (congruent_trans
              (congruent_eq
              (at-plus f (f ++ scaled q a.polynomial) q m
              ∙ ap (λ z. coefficient f m + q * z) (at-plus f a.polynomial q m)))
              (to_congruent (coefficient a.polynomial m) (coefficient f m + q * coefficient a.polynomial m)
              (omega arith)));
        })
        (plus f (f ++ scaled q a.polynomial) q t a.difference);
  }

  pub vector-plus : (v w : Vector q) (c : ℕ) → IsVector v → IsVector w
      → IsVector ((vectors q mul).add v (times (vectors q mul) c w))
  vector-plus v w c a b = record {
    polynomial = a.polynomial ++ scaled c b.polynomial;
    clean = clean-plus a.polynomial b.polynomial c a.clean b.clean;
    vector_is = coefficients-plus q mul ms a.polynomial b.polynomial c
        ∙ ap₂ (λ x y. (vectors q mul).add x (times (vectors q mul) c y)) a.vector_is b.vector_is;
    consequence = plus a.polynomial b.polynomial c a.consequence b.consequence;
  }

  -- sums of rows
  pub vector-sum : (rows : List (List ℕ)) → ((k : ℕ) → k < length rows → IsVector (vector q (row rows k)))
      → (u : ℕ → ℕ) (k : ℕ) → k ≤ length rows
      → IsVector (λ j. residue q (sum_below k (λ i. u i * entry (row rows i) j)))
  vector-sum rows h u zero l = record {
    polynomial = [];
    clean = λ m M. inr (congruent_refl 0);
    vector_is =
        coefficients-empty q mul ms;
    consequence = zero-consequence;
  }
  vector-sum rows h u (suc k) l = rw (fun_ext (λ j. sym (together j)))
      (vector-plus _ _ (u k) (vector-sum rows h u k (omega arith)) (h k (omega arith)))
    where
      together : (j : ℕ)
          → (vectors q mul).add (λ j. residue q (sum_below k (λ i. u i * entry (row rows i) j)))
          (times (vectors q mul) (u k) (vector q (row rows k))) j
          ≡ residue q (sum_below k (λ i. u i * entry (row rows i) j) + u k * entry (row rows k) j)
      together j = ap (λ (x : Below (suc q)). residue q
          ((residue q (sum_below k (λ i. u i * entry (row rows i) j))).0 + x.0))
          (times-residue q mul (u k) (vector q (row rows k)) j (entry (row rows k) j) refl)
          ∙ plus-residue q (sum_below k (λ i. u i * entry (row rows i) j)) (u k * entry (row rows k) j)

  -- a row with the coefficients of a polynomial over the list stands for it
  row-same : (r : List ℕ) (g : List Term) → IsOver q (degrees gs) d g → Clean g → coefficients q mul ms g
      ≡ vector q r → IsSame q (polynomial_of ms r) g
  row-same r g o c v = record { at = λ m. go m (occurs q (degrees gs) d g o m) (listed-or-zero C r m) }
    where
      at-listed : (m : List ℕ) → IsListed ms m
          → IsCongruent (suc q) (coefficient (polynomial_of ms r) m) (coefficient g m)
      at-listed m i = rw (← i.2)
          (congruent_trans (congruent_eq (coefficient-at ms r (listed-apart C) i.0 i.1))
          (congruent_trans (congruent_sym (congruent_mod (entry r i.0)))
          (congruent_trans (congruent_eq (ap (λ (v : Vector q). (v i.0).0) (sym v)))
          (congruent_trans (congruent_mod (entry (row_of q ms g) i.0))
          (congruent_trans (congruent_eq (entry-row-of q ms g i.0 i.1))
          (congruent_mod (coefficient g (slice_index_or ms i.0 []))))))))

      go : (m : List ℕ) → IsMonomial q (degrees gs) d m ⊎ (coefficient g m ≡ 0)
          → (coefficient (polynomial_of ms r) m ≡ 0) ⊎ IsListed ms m
          → IsCongruent (suc q) (coefficient (polynomial_of ms r) m) (coefficient g m)
      go m o (inr i) = at-listed m i
      go m (inr z) (inl x) = congruent_eq (x ∙ sym z)
      go m (inl M) (inl x) = off (c m M)
        where
          off : IsListed ms m ⊎ IsCongruent (suc q) (coefficient g m) 0
              → IsCongruent (suc q) (coefficient (polynomial_of ms r) m) (coefficient g m)
          off (inl i) = at-listed m i
          off (inr z) = congruent_trans (congruent_eq x) (congruent_sym z)

  -- a row whose vector is that of a consequence is the row of a consequence
  pub row-consequence : (r : List ℕ) → IsVector (vector q r) → T (polynomial_of ms r)
  row-consequence r a = same-consequence a.polynomial (polynomial_of ms r) (over-list C r)
      (row-same r a.polynomial a.consequence.over a.clean a.vector_is) a.consequence

  -- f differs from the polynomial of the row by a consequence
  pub row-of-rest : (f : List Term) (r : List ℕ) → IsOver q (degrees gs) d f → IsRest f (vector q r)
      → T (f ++ scaled q (polynomial_of ms r))
  row-of-rest f r o a = same-consequence (f ++ scaled q a.polynomial) (f ++ scaled q (polynomial_of ms r))
      (over-plus f (polynomial_of ms r) q o (over-list C r))
      (record {
        at = λ m. congruent_trans (congruent_eq (at-plus f (polynomial_of ms r) q m))
            (congruent_trans
            (congruent_add (congruent_refl (coefficient f m))
            (congruent_mul_left q ((row-same r a.polynomial a.over a.clean a.vector_is).at m)))
            (congruent_eq (sym (at-plus f a.polynomial q m))));
      })
      a.difference

  -- the rest of a row
  pub rest-of-row : (f : List Term) (r : List ℕ) → IsRow (suc q) (length ms) r
      → T (f ++ scaled q (polynomial_of ms r)) → IsRest f (vector q r)
  rest-of-row f r x t = record {
    polynomial = polynomial_of ms r;
    over = over-list C r;
    clean = λ m M. go m (listed-or-zero C r m);
    vector_is = coefficients-of-row q mul ms (listed-apart C) r x;
    difference = t;
  }
    where
      go : (m : List ℕ) → (coefficient (polynomial_of ms r) m ≡ 0) ⊎ IsListed ms m
          → IsListed ms m ⊎ IsCongruent (suc q) (coefficient (polynomial_of ms r) m) 0
      go m (inl z) = inr (congruent_eq z)
      go m (inr l) = inl l

  pub rest-scaled : (f : List Term) (v : Vector q) (c : ℕ) → IsOver q (degrees gs) d f → IsRest f v
      → IsRest (scaled c f) (times (vectors q mul) c v)
  rest-scaled f v c o a =
      rw (sym (zero-add q (Vector q) (vectors q mul) (vector-space q mul) (times (vectors q mul) c v)))
      (rest-plus [] f (vectors q mul).zero v c tt o rest-zero a)

  -- polynomials that differ by a consequence have the same rest
  pub rest-moved : (f h : List Term) (v : Vector q) → IsOver q (degrees gs) d f → IsOver q (degrees gs) d h
      → T (f ++ scaled q h) → IsRest f v → IsRest h v
  rest-moved f h v o p t a = record {
    polynomial = a.polynomial;
    over = a.over;
    clean = a.clean;
    vector_is = a.vector_is;
    difference = same-consequence ((f ++ scaled q a.polynomial) ++ scaled q (f ++ scaled q h))
        (h ++ scaled q a.polynomial) (over-plus h a.polynomial q p a.over)
        (record {
          at = λ m. congruent_sym
              (congruent_trans (congruent_eq (at-plus (f ++ scaled q a.polynomial) (f ++ scaled q h) q m
              ∙ ap₂ (λ x y. x + q * y) (at-plus f a.polynomial q m) (at-plus f h q m)))
              (congruent_trans (turned (coefficient f m) (coefficient h m) (coefficient a.polynomial m))
              (congruent_eq (sym (at-plus h a.polynomial q m)))));
        })
        (plus (f ++ scaled q a.polynomial) (f ++ scaled q h) q a.difference t);
  }
    where
      turned : (f h g : ℕ) → IsCongruent (suc q) ((f + q * g) + q * (f + q * h)) (h + q * g)
      turned f h g = to_congruent h (f + q * h) (omega arith)

  -- the vector of a consequence is added
  pub rest-vector : (f : List Term) (v w : Vector q) → IsOver q (degrees gs) d f → IsRest f v → IsVector w
      → IsRest f ((vectors q mul).add v w)
  rest-vector f v w o a b = record {
    polynomial = a.polynomial ++ scaled 1 b.polynomial;
    over = over-plus a.polynomial b.polynomial 1 a.over b.consequence.over;
    clean = clean-plus a.polynomial b.polynomial 1 a.clean b.clean;
    vector_is = coefficients-plus q mul ms a.polynomial b.polynomial 1
        ∙ ap₂ (vectors q mul).add a.vector_is
        (times-one q (Vector q) (vectors q mul) (vector-space q mul) (coefficients q mul ms b.polynomial)
        ∙ b.vector_is);
    difference = same-consequence ((f ++ scaled q a.polynomial) ++ scaled q b.polynomial)
        (f ++ scaled q (a.polynomial ++ scaled 1 b.polynomial))
        (over-plus f (a.polynomial ++ scaled 1 b.polynomial) q o
        (over-plus a.polynomial b.polynomial 1 a.over b.consequence.over))
        (record {
          at = λ m. congruent_eq
              (at-plus f (a.polynomial ++ scaled 1 b.polynomial) q m
              ∙ ap (λ z. coefficient f m + q * z) (at-plus a.polynomial b.polynomial 1 m)
              ∙ one (coefficient f m) (coefficient a.polynomial m) (coefficient b.polynomial m)
              ∙ sym (at-plus (f ++ scaled q a.polynomial) b.polynomial q m
              ∙ ap (λ z. z + q * coefficient b.polynomial m) (at-plus f a.polynomial q m)));
        })
        (plus (f ++ scaled q a.polynomial) b.polynomial q a.difference b.consequence);
  }
    where
      one : (f a b : ℕ) → f + q * (a + 1 * b) ≡ (f + q * a) + q * b
      one f a b = omega arith
