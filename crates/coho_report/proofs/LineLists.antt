-- Lists of lines that grow.
use Rattle.std.proofs.Common.{◌≡◌, ◌∙◌, ℕ, zero, suc, ◌+◌, ◌<◌, List, [], ◌∷◌, ◌++◌, map, length, take}
use Rattle.std.proofs.Common.{get_or, refl, sym, ap, arith, Some, append_assoc}
use Rattle.std.specs.Prelude.{slice_get}
use Rattle.std.specs.List.{concat, range_with_len}
use Rattle.std.proofs.lemmas.List.{map-append, take_more, append-nil}
use Rattle.std.proofs.lemmas.List.Folds.{concat-append}

range-more : (a n : ℕ) → range_with_len a (suc n) ≡ range_with_len a n ++ (a + n) ∷ []
range-more a zero = let same : a ≡ a + 0 = omega arith in ap (λ k. k ∷ []) same
range-more a (suc n) =
    let same : a + 1 + n ≡ a + suc n = omega arith in
    ap (λ xs. a ∷ xs) (range-more (a + 1) n ∙ ap (λ k. range_with_len (a + 1) n ++ k ∷ []) same)

-- the number i, after those below it
pub numbers_next : {X : Type 0} (f : ℕ → X) (i : ℕ)
    → map f (range_with_len 0 (i + 1)) ≡ map f (range_with_len 0 i) ++ f i ∷ []
numbers_next f i =
    let next : i + 1 ≡ suc i = omega arith in
    let same : 0 + i ≡ i = omega arith in
    ap (λ n. map f (range_with_len 0 n)) next ∙ ap (map f) (range-more 0 i)
    ∙ map-append f (range_with_len 0 i) ((0 + i) ∷ [])
    ∙ ap (λ k. map f (range_with_len 0 i) ++ f k ∷ []) same

-- one more line
pub pushed : {A : Type 0} (f : A → List ℕ) (lines new : List A) (line : A) (old more : List (List ℕ))
    (text : List ℕ) → new ≡ lines ++ line ∷ [] → map f lines ≡ old → f line ≡ text → more ≡ old ++ text ∷ []
    → map f new ≡ more
pushed f lines new line old more text is before here after =
    ap (map f) is ∙ map-append f lines (line ∷ []) ∙ ap (λ ls. ls ++ f line ∷ []) before
    ∙ ap (λ t. old ++ t ∷ []) here ∙ sym after

-- more lines
pub joined : {A : Type 0} (f : A → List ℕ) (lines others new : List A) (old texts : List (List ℕ))
    → new ≡ lines ++ others → map f lines ≡ old → map f others ≡ texts → map f new ≡ old ++ texts
joined f lines others new old texts is before here = ap (map f) is ∙ map-append f lines others
    ∙ ap (λ ls. ls ++ map f others) before ∙ ap (λ t. old ++ t) here

pub get-take : {X : Type 0} (xs : List X) (i : ℕ) (x : X) → slice_get xs i ≡ Some x
    → take (suc i) xs ≡ take i xs ++ x ∷ []
get-take [] i x e = absurd (cc)
get-take (y ∷ ys) zero x e = let same : y ≡ x = cc in ap (λ z. z ∷ []) same
get-take (y ∷ ys) (suc i) x e = ap (λ t. y ∷ t) (get-take ys i x e)

-- member i, after those before it
pub members_next : {X Y : Type 0} (f : X → Y) (xs : List X) (i : ℕ) (x : X) → slice_get xs i ≡ Some x
    → map f (take (i + 1) xs) ≡ map f (take i xs) ++ f x ∷ []
members_next f xs i x e =
    let next : i + 1 ≡ suc i = omega arith in
    ap (λ n. map f (take n xs)) next ∙ ap (map f) (get-take xs i x e) ∙ map-append f (take i xs) (x ∷ [])

-- the bytes of one more line
pub bytes_next : {A : Type 0} (f : A → List ℕ) (lines : List A) (i : ℕ) (line : A) (old new : List ℕ)
    → i < length lines → line ≡ get_or lines i line → old ≡ concat (map f (take i lines))
    → new ≡ old ++ f line → new ≡ concat (map f (take (i + 1) lines))
bytes_next f lines i line old new lt is before after =
    after ∙ ap (λ t. t ++ f line) before
    ∙ ap (λ t. concat (map f (take i lines)) ++ t) (sym (append-nil (f line)))
    ∙ sym (concat-append (map f (take i lines)) (f line ∷ []))
    ∙ ap concat (sym (map-append f (take i lines) (line ∷ [])))
    ∙ ap (λ ls. concat (map f ls)) (sym (take_more lines i line lt
    ∙ ap (λ l. take i lines ++ l ∷ []) (sym is)))

-- a part: a line, and the lines after it
part : {A : Type 0} (f : A → List ℕ) (lines one all ms : List A) (m : A) (old ts : List (List ℕ))
    (t : List ℕ) → one ≡ lines ++ m ∷ [] → all ≡ one ++ ms → map f lines ≡ old → f m ≡ t → map f ms ≡ ts
    → map f all ≡ old ++ (t ∷ ts)
part f lines one all ms m old ts t a b before p ps =
    joined f one ms all (old ++ t ∷ []) ts b (pushed f lines one m old (old ++ t ∷ []) t a before p refl) ps
    ∙ append_assoc old (t ∷ []) ts

-- three parts
pub three_parts : {A : Type 0} (f : A → List ℕ) (lines one first two second three all ms ns os : List A)
    (m n o : A) (head ts us vs : List (List ℕ)) (t u v : List ℕ)
    → one ≡ lines ++ m ∷ [] → first ≡ one ++ ms → two ≡ first ++ n ∷ [] → second ≡ two ++ ns
    → three ≡ second ++ o ∷ [] → all ≡ three ++ os
    → map f lines ≡ head → f m ≡ t → map f ms ≡ ts → f n ≡ u → map f ns ≡ us → f o ≡ v → map f os ≡ vs
    → map f all ≡ head ++ ((t ∷ ts) ++ ((u ∷ us) ++ (v ∷ vs)))
three_parts f lines one first two second three all ms ns os m n o head ts us vs t u v a b c d e g before p ps
    r rs s ss =
    part f second three all os o ((head ++ (t ∷ ts)) ++ (u ∷ us)) vs v e g
    (part f first two second ns n (head ++ (t ∷ ts)) us u c d
    (part f lines one first ms m head ts t a b before p ps) r rs) s ss
    ∙ append_assoc (head ++ (t ∷ ts)) (u ∷ us) (v ∷ vs)
    ∙ append_assoc head (t ∷ ts) ((u ∷ us) ++ (v ∷ vs))
