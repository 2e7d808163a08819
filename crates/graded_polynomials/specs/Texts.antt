-- The text of a polynomial over generators with the degrees ds.
use Rattle.std.specs.Prelude.{ℕ, zero, suc, ◌+◌, cond, eqb, List, [], ◌∷◌, ◌++◌, map, get_or, take, decimal}
use Rattle.std.specs.Prelude.{codes, count_by}
use Rattle.graded_polynomials.specs.Polynomials.{Term, product}

-- which one generator i is among those of its degree, from 1
abbrev pub ordinal : List ℕ → ℕ → ℕ
ordinal ds i = 1 + count_by (λ d. eqb d (get_or ds i 0)) (take i ds)

-- x_d_k
abbrev pub name : List ℕ → ℕ → List ℕ
name ds i = codes "x_" ++ decimal (get_or ds i 0) ++ codes "_" ++ decimal (ordinal ds i)

-- x_d_k or x_d_k^e
abbrev pub power_text : List ℕ → ℕ → ℕ → List ℕ
power_text ds i e = cond (eqb e 1) (name ds i) (name ds i ++ codes "^" ++ decimal e)

-- the powers of a monomial, from generator i on
abbrev pub factor_texts : List ℕ → ℕ → List ℕ → List (List ℕ)
factor_texts ds i [] = []
factor_texts ds i (zero ∷ m) = factor_texts ds (suc i) m
factor_texts ds i (suc e ∷ m) = power_text ds i (suc e) ∷ factor_texts ds (suc i) m

-- the pieces with s between them
abbrev pub joined_by : ℕ → List (List ℕ) → List ℕ
joined_by s [] = []
joined_by s (p ∷ []) = p
joined_by s (p ∷ r ∷ ps) = p ++ s ∷ joined_by s (r ∷ ps)

abbrev pub star : ℕ
star = 42

abbrev pub plus_sign : ℕ
plus_sign = 43

-- a coefficient before the powers; alone it is its numeral, and a coefficient 1 before powers is left out
abbrev pub pieces_text : ℕ → List (List ℕ) → List ℕ
pieces_text c [] = decimal c
pieces_text c (p ∷ ps) = joined_by star (cond (eqb c 1) (p ∷ ps) (decimal c ∷ p ∷ ps))

abbrev pub term_text : List ℕ → Term → List ℕ
term_text ds t = pieces_text t.scalar (factor_texts ds 0 t.monomial)

abbrev pub polynomial_text : List ℕ → List Term → List ℕ
polynomial_text ds [] = codes "0"
polynomial_text ds (t ∷ f) = joined_by plus_sign (map (term_text ds) (t ∷ f))

-- a term as it is read: a numeral, and powers of generators in the order in which they stand
pub record Factor : Type 0 where
  pub generator : ℕ
  pub exponent : ℕ

pub record ReadTerm : Type 0 where
  pub numeral : ℕ
  pub factors : List Factor

-- x_i^e as a monomial
abbrev pub power : ℕ → ℕ → List ℕ
power zero e = e ∷ []
power (suc i) e = 0 ∷ power i e

-- the factors multiplied from left to right
abbrev pub read_from : ℕ → List ℕ → List Term → List Factor → List Term
read_from q ds f [] = f
read_from q ds f (x ∷ xs) = read_from q ds
    (product q ds f (record { scalar = 1; monomial = power x.generator x.exponent } ∷ [])) xs

abbrev pub read_value : ℕ → List ℕ → List ReadTerm → List Term
read_value q ds [] = []
read_value q ds (t ∷ ts) = read_from q ds
    (record { scalar = t.numeral; monomial = [] } ∷ []) t.factors ++ read_value q ds ts

-- a stored term as it is written: its coefficient, and the powers of its monomial
abbrev pub factors_of : ℕ → List ℕ → List Factor
factors_of i [] = []
factors_of i (zero ∷ m) = factors_of (suc i) m
factors_of i (suc e ∷ m) = record { generator = i; exponent = suc e } ∷ factors_of (suc i) m

abbrev pub written : List Term → List ReadTerm
written [] = []
written (t ∷ f) = record { numeral = t.scalar; factors = factors_of 0 t.monomial } ∷ written f
