-- Tables with one more.
use Rattle.std.proofs.Common.{◌≡◌, ℕ, suc, ◌<◌, ◌≤◌, List, [], ◌∷◌, ◌++◌, length, map, drop, arith, ap, ◌∙◌}
use Rattle.std.proofs.Common.{refl}
use Rattle.std.specs.Prelude.{slice_index_or}
use Rattle.std.proofs.lemmas.List.{get_or_append_left, get_or_push, length-map, map-append}
use Rattle.ring_degree.specs.Tables.{lists, standard_at, rows_at, product_rows, products_at}
use Rattle.ring_degree.specs.declared.table.Table.{Table}

-- the standard monomials of degree d', and the rows of products with generator i, with one more table
module _ (tables : List Table) (t : Table) (n : ℕ) (count : length tables ≡ suc n) where
  lists-are : lists (tables ++ t ∷ []) ≡ lists tables ++ t.standard ∷ []
  lists-are = map-append (λ (t : Table). t.standard) tables (t ∷ [])

  pub standard-old : (e : ℕ) → e ≤ n → standard_at (tables ++ t ∷ []) e ≡ standard_at tables e
  standard-old e l = ap (λ ls. slice_index_or ls e []) lists-are
      ∙ get_or_append_left (lists tables) (t.standard ∷ []) [] e
      (let c = length-map tables (λ (t : Table). t.standard) in omega (arith, c, l, count))

  pub standard-new : standard_at (tables ++ t ∷ []) (suc n) ≡ t.standard
  standard-new = ap (λ ls. slice_index_or ls (suc n) []) lists-are
      ∙ get_or_push (lists tables) t.standard [] (suc n)
      (length-map tables (λ (t : Table). t.standard) ∙ count)

  matrices-are : map (λ (t : Table). t.products.items) (tables ++ t ∷ [])
      ≡ map (λ (t : Table). t.products.items) tables ++ t.products.items ∷ []
  matrices-are = map-append (λ (t : Table). t.products.items) tables (t ∷ [])

  pub products-old : (e : ℕ) → e ≤ n → products_at (tables ++ t ∷ []) e ≡ products_at tables e
  products-old e l = ap (λ ms. slice_index_or ms e []) matrices-are
      ∙ get_or_append_left (map (λ (t : Table). t.products.items) tables) (t.products.items ∷ []) [] e
      (let c = length-map tables (λ (t : Table). t.products.items) in omega (arith, c, l, count))

  pub products-new : products_at (tables ++ t ∷ []) (suc n) ≡ t.products.items
  products-new = ap (λ ms. slice_index_or ms (suc n) []) matrices-are
      ∙ get_or_push (map (λ (t : Table). t.products.items) tables) t.products.items [] (suc n)
      (length-map tables (λ (t : Table). t.products.items) ∙ count)

  pub rows-old : (e i : ℕ) → e ≤ n → product_rows (tables ++ t ∷ []) e i ≡ product_rows tables e i
  rows-old e i l = ap (λ ms. rows_at ms i) (products-old e l)

  pub rows-new : (i : ℕ) → product_rows (tables ++ t ∷ []) (suc n) i ≡ rows_at t.products.items i
  rows-new i = ap (λ ms. rows_at ms i) products-new

  pub lists-drop : drop 1 (lists (tables ++ t ∷ [])) ≡ drop 1 (lists tables) ++ t.standard ∷ []
  lists-drop = ap (drop 1) lists-are ∙ go (lists tables)
      (let c = length-map tables (λ (t : Table). t.standard) in omega (arith, c, count))
    where
      go : (ls : List (List (List ℕ))) → 0 < length ls
          → drop 1 (ls ++ t.standard ∷ []) ≡ drop 1 ls ++ t.standard ∷ []
      go [] l = absurd (omega (arith, l))
      go (x ∷ ls) l = refl
