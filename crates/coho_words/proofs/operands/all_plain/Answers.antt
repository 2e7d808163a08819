use Rattle.std.proofs.Common.{◌≡◌, ◌∙◌, ◌&&◌, Bool, rules, tests, ap, refl, List, [], ◌∷◌, map, string_bytes}
use Rattle.std.proofs.Common.{String, Global}
use Rattle.std.specs.List.{list_all}
use Rattle.std.proofs.lemmas.Iterator.{YieldsList-from_slice}
use Rattle.std.proofs.lemmas.Iterator.Search.{all_from_yields_List}
use Rattle.coho_words.specs.Words.{is_path}
use Rattle.coho_words.proofs.operands.all_plain.Goals as goal

list_all-map : {X Y : Type 0} (test : Y → Bool) (f : X → Y) (xs : List X)
    → list_all (λ x. test (f x)) xs ≡ list_all test (map f xs)
list_all-map test f [] = refl
list_all-map test f (x ∷ xs) = ap (λ b. test (f x) && b) (list_all-map test f xs)

pub returns : goal.returns
returns c =
    all_from_yields_List (λ (w : String Global). is_path (string_bytes w)) _ _ c.all.result c.all.ensures.ran
    (YieldsList-from_slice c.args.words.now cc) (λ x b q k. search (rules, tests))
    ∙ list_all-map is_path string_bytes c.args.words.now
