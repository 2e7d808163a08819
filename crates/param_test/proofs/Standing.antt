-- Where the walk stands after each move of the loop.
use Rattle.std.proofs.Common.{◌≡◌, ◌≢◌, ℕ, suc, ◌+◌, ◌-◌, ◌*◌, ◌<◌, ◌≤◌, inl, List, [], ◌∷◌, ◌++◌, length}
use Rattle.std.proofs.Common.{refl, ap, sym, ◌∙◌, subst, arith}
use Rattle.std.specs.Prelude.{slice_index, All}
use Rattle.param_test.specs.Firsts.{IsFirstPassing, NonePasses}
use Rattle.param_test.specs.Tuples.{Ascends, IsTuple, IsBefore, total, AreByDegree}
use Rattle.param_test.specs.Walks.{least, Fits, IsAt, Stands}
use Rattle.param_test.proofs.Lists.{length-snoc}
use Rattle.param_test.proofs.Steps.{ascends-more, ascends-snoc, ascends-front, ascends-all, total-append}
use Rattle.param_test.proofs.Steps.{total-cons}
use Rattle.param_test.proofs.Heights.{remains, push-less, visit-less, pop-less}
use Rattle.param_test.proofs.Positions.{at-push, at-skip, at-visit, at-found, at-pop, at-next, at-limit}
use Rattle.param_test.proofs.Positions.{at-end}

module _ (ds : List ℕ) (r : ℕ) (Passes : List ℕ → Type 0) (sum : ℕ) where
  pub stands-all : (pre p : List ℕ) (next left : ℕ) → p ≡ pre → Stands ds r Passes sum pre next left
      → All (λ i. i < length ds) p
  stands-all pre p next left e s =
      subst (λ z. All (λ i. i < length ds) z) (sym e) (ascends-all 0 next (length ds) pre s.within s.ascends)

  pub fits-next : (pre p : List ℕ) (next left : ℕ) → p ≡ pre → Stands ds r Passes sum pre next left
      → Fits ds r sum p next → next < length ds
  fits-next pre p next left e s f = let l : length p ≡ length pre = ap length e in
      omega (arith, f.room, s.room)

  frontier : (pre : List ℕ) (next left : ℕ) → Stands ds r Passes sum pre next left
      → Ascends 0 (suc (length ds)) (pre ++ next ∷ [])
  frontier pre next left s = ascends-snoc 0 (suc (length ds)) pre next (omega arith) (omega (arith, s.within))
      s.ascends

  total-snoc : (pre : List ℕ) (next : ℕ) → total ds (pre ++ next ∷ []) ≡ total ds pre + slice_index ds next
  total-snoc pre next = omega (arith, total-append ds pre (next ∷ []), total-cons ds next [])

  pub stands-push : AreByDegree ds → (pre p new : List ℕ) (next left : ℕ) → p ≡ pre → Fits ds r sum p next
      → length pre + 1 < r → new ≡ pre ++ next ∷ []
      → Stands ds r Passes sum pre next left → Stands ds r Passes sum new (next + 1) left
  stands-push d pre p new next left e f n h s =
      let l : next < length ds = fits-next pre p next left e s f in
      subst (λ z. Stands ds r Passes sum z (next + 1) left) (sym h)
      (record {
        ascends = ascends-snoc 0 (next + 1) pre next (omega arith) (omega arith) s.ascends;
        within = omega arith;
        room = omega (arith, length-snoc pre next);
        at = at-push ds d r Passes sum next pre left s.at;
      })

  pub push-smaller : (pre new : List ℕ) (next left : ℕ) → length pre + 1 < r → new ≡ pre ++ next ∷ []
      → Stands ds r Passes sum pre next left
      → remains (length ds) r (new ++ (next + 1) ∷ []) < remains (length ds) r (pre ++ next ∷ [])
  push-smaller pre new next left n h s =
      subst (λ z. remains (length ds) r (z ++ (next + 1) ∷ []) < remains (length ds) r (pre ++ next ∷ []))
      (sym h)
      (push-less (length ds) r pre next n (frontier pre next left s))

  pub stands-pop : AreByDegree ds → (old p new : List ℕ) (next x left : ℕ) → p ≡ old
      → (Fits ds r sum p next → ⊥) → old ≡ new ++ x ∷ []
      → Stands ds r Passes sum old next left → Stands ds r Passes sum new (x + 1) left
  stands-pop d old p new next x left e f h s =
      let a : (0 ≤ x) × (x < next) × Ascends 0 x new =
      ascends-front 0 next new x (subst (λ z. Ascends 0 next z) h s.ascends) in
      let l : length old ≡ length new + 1 = ap length h ∙ length-snoc new x in
      record {
        ascends = ascends-more 0 x (x + 1) new (omega arith) a.2;
        within = omega (arith, a.1, s.within);
        room = omega (arith, s.room);
        at =
            at-pop ds d r Passes sum next x new left (omega (arith, s.room))
            (λ k. f (subst (λ z. Fits ds r sum z next) (sym (e ∙ h)) k))
            (subst (λ z. IsAt ds r Passes sum (z ++ next ∷ []) left) h s.at);
      }

  pub pop-smaller : (old new : List ℕ) (next x left : ℕ) → old ≡ new ++ x ∷ []
      → Stands ds r Passes sum old next left
      → remains (length ds) r (new ++ (x + 1) ∷ []) < remains (length ds) r (old ++ next ∷ [])
  pop-smaller old new next x left h s =
      let l : length old ≡ length new + 1 = ap length h ∙ length-snoc new x in
      subst (λ z. remains (length ds) r (new ++ (x + 1) ∷ []) < remains (length ds) r (z ++ next ∷ []))
      (sym h)
      (pop-less (length ds) r new x next (omega (arith, s.room)) s.within
      (subst (λ z. Ascends 0 (suc (length ds)) (z ++ next ∷ [])) h (frontier old next left s)))

  -- the tuple of pre and next is reached
  pub reached : (pre p : List ℕ) (next left : ℕ) → p ≡ pre → Fits ds r sum p next → (length pre + 1 < r → ⊥)
      → Stands ds r Passes sum pre next left → IsTuple (length ds) r (pre ++ next ∷ []) × (length pre + 1 ≡ r)
      × (total ds (pre ++ next ∷ []) ≤ sum)
  reached pre p next left e f n s =
      let l : next < length ds = fits-next pre p next left e s f in
      let m : length pre + 1 ≡ r = omega (arith, s.room) in
      let k : r - length p ≡ 1 = let i : length p ≡ length pre = ap length e in omega arith in
      let g : least ds (r - length p) next ≡ slice_index ds next + 0 = ap (λ z. least ds z next) k in
      let t : total ds p ≡ total ds pre = ap (total ds) e in (
        record {
          length_is = length-snoc pre next ∙ m;
          ascends =
              ascends-snoc 0 (length ds) pre next (omega arith) l s.ascends;
        },
        m,
        omega (arith, total-snoc pre next, f.light),
      )

  pub stands-skip : AreByDegree ds → (pre p : List ℕ) (next left : ℕ) → p ≡ pre → Fits ds r sum p next
      → (length pre + 1 < r → ⊥) → total ds p + slice_index ds next ≢ sum
      → Stands ds r Passes sum pre next left → Stands ds r Passes sum pre (next + 1) left
  stands-skip d pre p next left e f n k s =
      let t = reached pre p next left e f n s in
      let i : total ds p ≡ total ds pre = ap (total ds) e in
      let l : next < length ds = fits-next pre p next left e s f in
      let m : total ds (pre ++ next ∷ []) < sum = omega (arith, total-snoc pre next, t.2) in
      record {
        ascends = ascends-more 0 next (next + 1) pre (omega arith) s.ascends;
        within = omega arith;
        room = s.room;
        at = at-skip ds d r Passes sum next pre left t.1 m s.at;
      }

  pub next-smaller : (pre p new : List ℕ) (next left : ℕ) → p ≡ pre → Fits ds r sum p next
      → (length pre + 1 < r → ⊥) → new ≡ pre
      → Stands ds r Passes sum pre next left
      → remains (length ds) r (new ++ (next + 1) ∷ []) < remains (length ds) r (pre ++ next ∷ [])
  next-smaller pre p new next left e f n h s =
      subst (λ z. remains (length ds) r (z ++ (next + 1) ∷ []) < remains (length ds) r (pre ++ next ∷ []))
      (sym h)
      (visit-less (length ds) r pre next (reached pre p next left e f n s).1 (frontier pre next left s))

  pub stands-visit : AreByDegree ds → (pre p new : List ℕ) (next left : ℕ) → p ≡ pre → Fits ds r sum p next
      → (length pre + 1 < r → ⊥) → total ds p + slice_index ds next ≡ sum
      → (Passes (pre ++ next ∷ []) → ⊥) → 0 < left → new ≡ pre
      → Stands ds r Passes sum pre next left → Stands ds r Passes sum new (next + 1) (left - 1)
  stands-visit d pre p new next left e f n k w v h s =
      let t = reached pre p next left e f n s in
      let i : total ds p ≡ total ds pre = ap (total ds) e in
      let l : next < length ds = fits-next pre p next left e s f in
      let m : total ds (pre ++ next ∷ []) ≡ sum = omega (arith, total-snoc pre next) in
      subst (λ z. Stands ds r Passes sum z (next + 1) (left - 1)) (sym h)
      (record {
        ascends = ascends-more 0 next (next + 1) pre (omega arith) s.ascends;
        within = omega arith;
        room = s.room;
        at = at-visit ds d r Passes sum next pre left t.1 t.0 m w v s.at;
      })

  pub stands-found : AreByDegree ds → (pre p new : List ℕ) (next left : ℕ) → p ≡ pre → Fits ds r sum p next
      → (length pre + 1 < r → ⊥) → total ds p + slice_index ds next ≡ sum
      → Passes (pre ++ next ∷ []) → 0 < left → new ≡ pre ++ next ∷ []
      → Stands ds r Passes sum pre next left
      → IsFirstPassing (IsTuple (length ds) r) (IsBefore ds) 5000 Passes new
  stands-found d pre p new next left e f n k w v h s =
      let t = reached pre p next left e f n s in
      let i : total ds p ≡ total ds pre = ap (total ds) e in
      let m : total ds (pre ++ next ∷ []) ≡ sum = omega (arith, total-snoc pre next) in
      subst (λ z. IsFirstPassing (IsTuple (length ds) r) (IsBefore ds) 5000 Passes z) (sym h)
      (at-found ds d r Passes sum (pre ++ next ∷ []) left t.0 m w v s.at)

  pub stands-next : AreByDegree ds → (old p : List ℕ) (next left : ℕ) → p ≡ old → (Fits ds r sum p next → ⊥)
      → length old ≡ 0
      → Stands ds r Passes sum old next left → IsAt ds r Passes (sum + 1) (0 ∷ []) left
  stands-next d [] p next left e f h s =
      at-next ds d r Passes sum next left s.room (λ k. f (subst (λ z. Fits ds r sum z next) (sym e) k)) s.at
  stands-next d (x ∷ old) p next left e f h s = absurd (omega arith)

  pub stands-limit : AreByDegree ds → (pre : List ℕ) (next left : ℕ) → left ≡ 0
      → Stands ds r Passes sum pre next left → NonePasses (IsTuple (length ds) r) (IsBefore ds) 5000 Passes
  stands-limit d pre next left e s =
      at-limit ds d r Passes sum (pre ++ next ∷ []) (omega (arith, length-snoc pre next, s.room))
      (subst (λ z. IsAt ds r Passes sum (pre ++ next ∷ []) z) e s.at)

-- no tuple has a greater total degree than 24 times its length
pub total-small : (ds : List ℕ) → ((i : ℕ) → slice_index ds i ≤ 24) → (t : List ℕ)
    → total ds t ≤ 24 * length t
total-small ds h [] = omega arith
total-small ds h (x ∷ t) = let r : total ds t ≤ 24 * length t = total-small ds h t in
    omega (arith, total-cons ds x t, h x)

pub search-end : (ds : List ℕ) → AreByDegree ds → ((i : ℕ) → slice_index ds i ≤ 24)
    → (r : ℕ) (Passes : List ℕ → Type 0) (sum left : ℕ) → 24 * r < sum
    → IsAt ds r Passes sum (0 ∷ []) left → NonePasses (IsTuple (length ds) r) (IsBefore ds) 5000 Passes
search-end ds d h r Passes sum left l a =
    at-end ds d r Passes sum left (λ y m. let n : length y ≡ r = m.length_is in
    omega (arith, total-small ds h y)) a

-- the one tuple of no candidates
module _ (ds : List ℕ) (r : ℕ) (Passes : List ℕ → Type 0) where
  only-empty : r ≡ 0 → (y : List ℕ) → IsTuple (length ds) r y → y ≡ []
  only-empty z [] m = refl
  only-empty z (x ∷ y) m = absurd (omega (arith, m.length_is))

  pub empty-none : r ≡ 0 → (Passes [] → ⊥) → NonePasses (IsTuple (length ds) r) (IsBefore ds) 5000 Passes
  empty-none z f = record {
    tried = [] ∷ [];
    first = record {
      members = (record { length_is = sym z; ascends = tt }, tt);
      ascending = (tt, tt);
      at_most = omega arith;
      others = λ y m. inl (inl (only-empty z y m));
    };
    fail = (f, tt);
  }

  pub empty-found : r ≡ 0 → (t : List ℕ) → t ≡ [] → Passes []
      → IsFirstPassing (IsTuple (length ds) r) (IsBefore ds) 5000 Passes t
  empty-found z t e p = subst (λ v. IsFirstPassing (IsTuple (length ds) r) (IsBefore ds) 5000 Passes v)
      (sym e) (record {
        earlier = [];
        first = record {
          members = (record { length_is = sym z; ascends = tt }, tt);
          ascending = (tt, tt);
          at_most = omega arith;
          others = λ y m. inl (inl (only-empty z y m));
        };
        among = omega arith;
        fail = tt;
        pass = p;
      })
