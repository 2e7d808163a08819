-- What a sink holds after several writes.
use Rattle.std.proofs.Common.{◌≡◌, ℕ, ◌+◌, ◌<◌, min, List, [], ◌∷◌, ◌++◌, map, length, take, drop, get_or}
use Rattle.std.proofs.Common.{sym, ◌∙◌, ap, subst, arith, append_assoc, Some, None, suc}
use Rattle.std.specs.declared.option.Option.{Option}
use Rattle.std.specs.declared.result.Result.{Result}
use Rattle.std.specs.declared.result.Result.TheVariants.{Ok, Err}
use Rattle.std.specs.Result.{OnOk, OnErr}
use Rattle.std.specs.List.{concat}
use Rattle.std.specs.Io.KnownBytes.{Appends}
use Rattle.std.proofs.lemmas.List.{take_min, take-append-le, take_more, append-nil, take-map, length-map}
use Rattle.std.proofs.Math.ListN.{get_or-map}
use Rattle.std.proofs.Math.Seq.{take-append-add, take-length, split_at}
use Rattle.std.proofs.lemmas.List.Folds.{concat-append}
use Rattle.coho_io.specs.Bytes.{AppendsFront}

pub Appends-trans : (a b c : Option (List ℕ)) (xs ys : List ℕ) → Appends a b xs → Appends b c ys
    → Appends a c (xs ++ ys)
Appends-trans None b c xs ys h k = tt
Appends-trans (Some ws) None c xs ys h k = absurd h
Appends-trans (Some ws) (Some bs) None xs ys h k = absurd k
Appends-trans (Some ws) (Some bs) (Some cs) xs ys h k = k ∙ ap (λ t. t ++ ys) h ∙ append_assoc ws xs ys

-- the first bytes of what comes next are the first bytes of all
pub Appends_front : (a b c : Option (List ℕ)) (xs ys rest : List ℕ) → Appends a b xs → AppendsFront b c ys
    → AppendsFront a c (xs ++ (ys ++ rest))
Appends_front a b c xs ys rest h k =
    let n = min k.0 (length ys) in
    let e : take n (ys ++ rest) ≡ take k.0 ys = take-append-le n ys rest (omega arith) ∙ take_min k.0 ys in (
      length xs + n,
      subst (Appends a c) (sym (take-append-add xs (ys ++ rest) n ∙ ap (λ t. xs ++ t) e))
          (Appends-trans a b c xs (take k.0 ys) h k.1),
    )

pub AppendsFront_all : (a b : Option (List ℕ)) (xs : List ℕ) → Appends a b xs → AppendsFront a b xs
AppendsFront_all a b xs h = (length xs, subst (Appends a b) (sym (take-length xs)) h)

pub AppendsFront_either : {T E : Type 0} (r : Result T E) (a b : Option (List ℕ)) (xs : List ℕ)
    → OnOk r (Appends a b xs) → OnErr r (AppendsFront a b xs) → AppendsFront a b xs
AppendsFront_either (Ok x) a b xs ok err = AppendsFront_all a b xs ok
AppendsFront_either (Err e) a b xs ok err = err

-- the lines, around one of them
around : (lines : List (List ℕ)) (i : ℕ) (d : List ℕ) → i < length lines
    → concat lines ≡ concat (take i lines) ++ (get_or lines i d ++ concat (drop (suc i) lines))
around lines i d lt = ap concat (split_at lines i d lt)
    ∙ concat-append (take i lines) (get_or lines i d ∷ drop (suc i) lines)

parts_front : (a b c : Option (List ℕ)) (lines : List (List ℕ)) (i : ℕ) (line : List ℕ) → i < length lines
    → line ≡ get_or lines i line → Appends a b (concat (take i lines)) → AppendsFront b c line
    → AppendsFront a c (concat lines)
parts_front a b c lines i line lt is h k =
    subst (AppendsFront a c) (sym (around lines i line lt
    ∙ ap (λ l. concat (take i lines) ++ (l ++ concat (drop (suc i) lines))) (sym is)))
    (Appends_front a b c (concat (take i lines)) line (concat (drop (suc i) lines)) h k)

parts_more : (a b c : Option (List ℕ)) (lines : List (List ℕ)) (i : ℕ) (line : List ℕ) → i < length lines
    → line ≡ get_or lines i line → Appends a b (concat (take i lines)) → Appends b c line
    → Appends a c (concat (take (i + 1) lines))
parts_more a b c lines i line lt is h k =
    let e : take (i + 1) lines ≡ take i lines ++ line ∷ [] = take_more lines i line lt
    ∙ ap (λ l. take i lines ++ l ∷ []) (sym is) in
    subst (Appends a c) (sym (ap concat e ∙ concat-append (take i lines) (line ∷ [])
    ∙ ap (λ t. concat (take i lines) ++ t) (append-nil line)))
    (Appends-trans a b c (concat (take i lines)) line h k)

module _ {X : Type 0} (f : X → List ℕ) (a b c : Option (List ℕ)) (xs : List X) (i : ℕ) (x : X)
    (bytes : List ℕ) where
  here : x ≡ get_or xs i x → bytes ≡ f x → bytes ≡ get_or (map f xs) i bytes
  here is e = let h : get_or (map f xs) i (f x) ≡ f x = get_or-map f xs i x ∙ ap f (sym is) in
      subst (λ t. t ≡ get_or (map f xs) i t) (sym e) (sym h)

  pub lines_front : i < length xs → x ≡ get_or xs i x → bytes ≡ f x → Appends a b (concat (map f (take i xs)))
      → AppendsFront b c bytes → AppendsFront a c (concat (map f xs))
  lines_front lt is e h k = parts_front a b c (map f xs) i bytes
      (subst (λ n. i < n) (sym (length-map xs f)) lt) (here is e)
      (subst (λ t. Appends a b (concat t)) (sym (take-map f i xs)) h) k

  pub lines_more : i < length xs → x ≡ get_or xs i x → bytes ≡ f x → Appends a b (concat (map f (take i xs)))
      → Appends b c bytes → Appends a c (concat (map f (take (i + 1) xs)))
  lines_more lt is e h k = subst (λ t. Appends a c (concat t)) (take-map f (i + 1) xs)
      (parts_more a b c (map f xs) i bytes (subst (λ n. i < n) (sym (length-map xs f)) lt) (here is e)
      (subst (λ t. Appends a b (concat t)) (sym (take-map f i xs)) h) k)
