-- The rows of the kernel over a list that has all standard monomials, whose pivots are none of the
-- consequences', are the new relations.
use Rattle.std.proofs.Common.{◌≡◌, ℕ, zero, suc, ◌<◌, ◌↔◌, List, [], ◌∷◌, length}
use Rattle.std.proofs.Common.{◌⊎◌, inl, inr, arith, ap, sym, ◌∙◌, refl}
use Rattle.std.specs.Prelude.{slice_index_or}
use Rattle.linear_algebra.specs.Modular.{IsFieldModulo}
use Rattle.linear_algebra.specs.Rows.{IsPivot}
use Rattle.linear_algebra.specs.Kernels.{IsKernelOf}
use Rattle.graded_polynomials.specs.Monomials.{IsMonomials, IsGreater}
use Rattle.graded_polynomials.specs.Polynomials.{Polynomial}
use Rattle.graded_polynomials.proofs.Order.{greater-self, greater-both}
use Rattle.graded_algebra.specs.Algebras.{Algebra, Generator, degrees, IsGradedCommutative}
use Rattle.graded_algebra.specs.Presentations.{IsLeading, IsConsequence}
use Rattle.graded_algebra.specs.Presentations.{IsRelationsFrom, IsRelations}
use Rattle.graded_algebra.specs.Vectors.{Vector, vectors}
use Rattle.presentation_rows.specs.Values.{AreValues}
use Rattle.presentation_rows.specs.Pivots.{new_relations}
use Rattle.presentation_rows.proofs.RowTerms.{Descends}
use Rattle.presentation_rows.proofs.KernelRelations.{relations-of-rows}
use Rattle.ring_completion.specs.Candidates.{AreSome, IsListed}
use Rattle.ring_completion.proofs.Reduction.{Separates}
use Rattle.ring_completion.proofs.LeftLeads.{kernel-relation, leads-at-pivots, standard-off-pivots}

module _ (q : ℕ) (field : IsFieldModulo (suc q)) (mul : ℕ → ℕ → Vector q → Vector q → Vector q)
    (In : ℕ → Vector q → Type 0)
    (L : IsGradedCommutative q (Vector q) (vectors q mul) In) (gs : List (Generator (Vector q))) (n : ℕ)
    (rs : List Polynomial)
    (R : IsRelations q (vectors q mul) gs n rs) (d : ℕ) (ns : List (List ℕ))
    (M : IsMonomials q (degrees gs) d ns)
    (ms values kernel multiples : List (List ℕ)) (S : AreSome q (degrees gs) d ms)
    (separates : Separates q (degrees gs) (vectors q mul) (IsConsequence q (vectors q mul) gs rs d) d ms)
    (V : AreValues q (vectors q mul) gs ms values) (K : IsKernelOf (suc q) values kernel)
    (consequences : (k : ℕ) → k < length ms
    → IsLeading q (vectors q mul) (IsConsequence q (vectors q mul) gs rs d)
    (slice_index_or ms k []) ↔ IsPivot multiples k) where
  pub relations-from : IsRelationsFrom q (vectors q mul) gs rs d ms (new_relations d ms multiples kernel)
  relations-from = relations-of-rows q d (vectors q mul) gs rs ms kernel multiples S.each S.descending
      K.echelon (λ i l. rw (← V.count) (K.matrix i l))
      (kernel-relation q field mul In L gs n rs R d ns M ms values kernel S separates V K)
      (leads-at-pivots q field mul In L gs n rs R d ns M ms values kernel S separates V K)
      (standard-off-pivots q field mul In L gs n rs R d ns M ms values kernel S separates V K) consequences

-- the members of ns that are not on ms have the property P, and ms is the list of the others, in the same
-- order
abbrev pub IsMerged : (P : List ℕ → Type 0) → List (List ℕ) → List (List ℕ) → Type 0
IsMerged P [] ms = ms ≡ []
IsMerged P (n ∷ ns) ms =
    (P n × IsMerged P ns ms) ⊎ ((rest : List (List ℕ)) × (ms ≡ n ∷ rest) × IsMerged P ns rest)

tail : (m : List ℕ) (ms : List (List ℕ)) → Descends (m ∷ ms) → Descends ms
tail m ms h i j b l = h (suc i) (suc j) (omega arith) (omega arith)

head-greater : (m : List ℕ) (ms : List (List ℕ)) → Descends (m ∷ ms) → (a : List ℕ) → IsListed ms a
    → IsGreater m a
head-greater m ms h a (i, l, e) = let g : IsGreater m (slice_index_or ms i []) =
    h 0 (suc i) (omega arith) (omega arith) in rw e at g

split-listed : (m a : List ℕ) (ms : List (List ℕ)) → IsListed (m ∷ ms) a → (m ≡ a) ⊎ IsListed ms a
split-listed m a ms (zero, l, e) = inl e
split-listed m a ms (suc i, l, e) = inr (i, omega arith, e)

more-listed : (m a : List ℕ) (ms : List (List ℕ)) → IsListed ms a → IsListed (m ∷ ms) a
more-listed m a ms (i, l, e) = (suc i, omega arith, e)

abbrev Inside : List (List ℕ) → List (List ℕ) → Type 0
Inside ns ms = (m : List ℕ) → IsListed ms m → IsListed ns m

abbrev Decided : (List ℕ → Type 0) → List (List ℕ) → List (List ℕ) → Type 0
Decided P ns ms = (m : List ℕ) → IsListed ns m → IsListed ms m ⊎ ((IsListed ms m → ⊥) × P m)

-- descending lists are merged
pub merged : (P : List ℕ → Type 0) (ns ms : List (List ℕ)) → Descends ns → Descends ms → Inside ns ms
    → Decided P ns ms → IsMerged P ns ms
merged P [] [] D E f g = refl
merged P [] (m ∷ ms) D E f g = absurd (let i = f m (0, omega arith, refl) in let l = i.1 in omega (arith, l))
merged P (n ∷ ns) ms D E f g =
    go (λ ms E f g. merged P ns ms (tail n ns D) E f g) ms E f g (g n (0, omega arith, refl))
  where
    go : ((ms : List (List ℕ)) → Descends ms → Inside ns ms → Decided P ns ms → IsMerged P ns ms)
        → (ms : List (List ℕ)) → Descends ms → Inside (n ∷ ns) ms → Decided P (n ∷ ns) ms
        → IsListed ms n ⊎ ((IsListed ms n → ⊥) × P n)
        → IsMerged P (n ∷ ns) ms
    go ih ms E f g (inr o) = inl
        (o.1, ih ms E (λ m i. inside m i (split-listed n m ns (f m i))) (λ m i. g m (more-listed n m ns i)))
      where
        inside : (m : List ℕ) → IsListed ms m → (n ≡ m) ⊎ IsListed ns m → IsListed ns m
        inside m i (inl e) = absurd (o.0 (rw (sym e) at i))
        inside m i (inr k) = k
    go ih [] E f g (inl i) = absurd (let l = i.1 in omega (arith, l))
    go ih (m ∷ ms) E f g (inl i) = inr (ms, ap (λ a. a ∷ ms) head, ih ms (tail m ms E) below above)
      where
        head : m ≡ n
        head = first (split-listed n m ns (f m (0, omega arith, refl))) (split-listed m n ms i)
          where
            first : (n ≡ m) ⊎ IsListed ns m → (m ≡ n) ⊎ IsListed ms n → m ≡ n
            first (inl e) o = sym e
            first (inr k) (inl e) = e
            first (inr k) (inr j) =
                absurd (greater-both n m (head-greater n ns D m k) (head-greater m ms E n j))

        below : (a : List ℕ) → IsListed ms a → IsListed ns a
        below a k = pick (split-listed n a ns (f a (more-listed m a ms k)))
          where
            pick : (n ≡ a) ⊎ IsListed ns a → IsListed ns a
            pick (inl e) = absurd (greater-self a (let x = head-greater m ms E a k in rw (head ∙ e) at x))
            pick (inr j) = j

        above : (a : List ℕ) → IsListed ns a → IsListed ms a ⊎ ((IsListed ms a → ⊥) × P a)
        above a k = pick (g a (more-listed n a ns k))
          where
            pick : IsListed (m ∷ ms) a ⊎ ((IsListed (m ∷ ms) a → ⊥) × P a)
                → IsListed ms a ⊎ ((IsListed ms a → ⊥) × P a)
            pick (inr o) = inr ((λ j. o.0 (more-listed m a ms j)), o.1)
            pick (inl j) = rest (split-listed m a ms j)
              where
                rest : (m ≡ a) ⊎ IsListed ms a → IsListed ms a ⊎ ((IsListed ms a → ⊥) × P a)
                rest (inl e) =
                    absurd (greater-self a (let x = head-greater n ns D a k in rw (sym head ∙ e) at x))
                rest (inr j) = inl j

-- relations along a list are relations along a longer one whose other members lead in the consequences
pub relations-along : (q : ℕ) {V : Type 0} (A : Algebra V) (gs : List (Generator V)) (rs : List Polynomial)
    (d : ℕ) (ns ms : List (List ℕ)) (new : List Polynomial)
    → IsMerged (IsLeading q A (IsConsequence q A gs rs d)) ns ms → IsRelationsFrom q A gs rs d ms new
    → IsRelationsFrom q A gs rs d ns new
relations-along q A gs rs d [] ms new e h = rw e at h
relations-along q A gs rs d (n ∷ ns) ms new (inl p) h =
    inr (inl (p.0, relations-along q A gs rs d ns ms new p.1 h))
relations-along q A gs rs d (n ∷ ns) ms new (inr p) h =
    go (λ new h. relations-along q A gs rs d ns p.0 new p.2 h) (rw p.1 at h)
  where
    go : ((new : List Polynomial) → IsRelationsFrom q A gs rs d p.0 new → IsRelationsFrom q A gs rs d ns new)
        → IsRelationsFrom q A gs rs d (n ∷ p.0) new → IsRelationsFrom q A gs rs d (n ∷ ns) new
    go ih (inl s) = inl (s.0, ih new s.1)
    go ih (inr (inl s)) = inr (inl (s.0, ih new s.1))
    go ih (inr (inr s)) = inr (inr (s.0, s.1, s.2, s.3, s.4, s.5, ih s.1 s.6))
