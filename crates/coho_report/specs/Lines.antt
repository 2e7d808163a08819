-- The lines of a report, each ended by LF.
use Rattle.std.specs.Prelude.{ℕ, ◌+◌, cond, Option, Some, None, List, [], ◌∷◌, ◌++◌, length, map, flat_map}
use Rattle.std.specs.Prelude.{codes, decimal}
use Rattle.std.specs.List.{concat, enumerate_from, range_with_len}
use Rattle.graded_polynomials.specs.Polynomials.{Polynomial}
use Rattle.graded_polynomials.specs.Texts.{name, polynomial_text}
use Rattle.coho_report.specs.Values.{ReportValue, SubgroupValue}
use Rattle.coho_report.specs.Verdicts.{bound_of, is_complete}

abbrev pub ended : List ℕ → List ℕ
ended text = text ++ 10 ∷ []

-- a word and a number
abbrev pub numbered : List ℕ → ℕ → List ℕ
numbered word n = word ++ (decimal n ++ 10 ∷ [])

abbrev pub after_space : ℕ → List ℕ
after_space n = codes " " ++ decimal n

-- the word ranks, and the ranks each after a space
abbrev pub ranks_line : List ℕ → List ℕ
ranks_line ranks = codes "ranks" ++ (flat_map after_space ranks ++ 10 ∷ [])

-- the name of each generator
abbrev pub generator_lines : List ℕ → List (List ℕ)
generator_lines degrees = map (λ i. ended (name degrees i)) (range_with_len 0 (length degrees))

-- the text of each relation
abbrev pub relation_lines : List ℕ → List Polynomial → List (List ℕ)
relation_lines degrees relations = map (λ r. ended (polynomial_text degrees r.terms)) relations

-- the number of a subgroup, its rank, and its basis
abbrev pub basis_line : ℕ → List ℕ → List ℕ
basis_line number basis =
    codes "subgroup "
    ++ (decimal number ++ (codes " rank "
    ++ (decimal (length basis) ++ (codes " basis" ++ (flat_map after_space basis ++ 10 ∷ [])))))

-- the name of a generator, and the text of its restriction
abbrev pub image_line : List ℕ → List ℕ → ℕ → Polynomial → List ℕ
image_line degrees own i image = name degrees i ++ (codes " -> " ++ ended (polynomial_text own image.terms))

-- a line for each image
abbrev pub image_lines : List ℕ → List ℕ → List Polynomial → List (List ℕ)
image_lines degrees own images = map (λ p. image_line degrees own p.0 p.1) (enumerate_from 0 images)

-- the lines of the subgroup at a place, counted from 0
abbrev pub subgroup_lines : List ℕ → ℕ → SubgroupValue → List (List ℕ)
subgroup_lines degrees place s =
    basis_line (place + 1) s.basis ∷ image_lines degrees s.generators s.images

-- the lines of each subgroup
abbrev pub all_subgroup_lines : List ℕ → List SubgroupValue → List (List ℕ)
all_subgroup_lines degrees ss = flat_map (λ p. subgroup_lines degrees p.0 p.1) (enumerate_from 0 ss)

abbrev pub head_lines : ReportValue → List (List ℕ)
head_lines r =
    ended (codes "coho ring 1")
    ∷ numbered (codes "prime ") r.prime
    ∷ numbered (codes "order ") r.order
    ∷ numbered (codes "degree ") r.degree
    ∷ ranks_line r.ranks
    ∷ []

-- the ring and its restrictions
abbrev pub ring_lines : ReportValue → List (List ℕ)
ring_lines r =
    head_lines r
    ++ ((numbered (codes "generators ") (length r.generators) ∷ generator_lines r.generators)
    ++ ((numbered (codes "relations ") (length r.relations) ∷ relation_lines r.generators r.relations)
    ++ (numbered (codes "subgroups ") (length r.subgroups) ∷ all_subgroup_lines r.generators r.subgroups)))

-- the text of each parameter, and their bound
abbrev pub parameter_lines : List ℕ → Option (List Polynomial) → List (List ℕ)
parameter_lines degrees None = ended (codes "parameters none") ∷ ended (codes "bound none") ∷ []
parameter_lines degrees (Some fs) =
    numbered (codes "parameters ") (length fs)
    ∷ (relation_lines degrees fs ++ numbered (codes "bound ") (bound_of fs) ∷ [])

-- whether the ring is complete
abbrev pub verdict_line : ReportValue → List ℕ
verdict_line r =
    ended (codes (cond (is_complete r.degree r.parameters) "verdict complete" "verdict not complete"))

abbrev pub report_lines : ReportValue → List (List ℕ)
report_lines r = ring_lines r ++ (parameter_lines r.generators r.parameters ++ verdict_line r ∷ [])

-- the numbers of a report alone, and whether the ring is complete
abbrev pub summary_lines : ReportValue → List (List ℕ)
summary_lines r =
    numbered (codes "prime ") r.prime
    ∷ numbered (codes "order ") r.order
    ∷ numbered (codes "degree ") r.degree
    ∷ ranks_line r.ranks
    ∷ numbered (codes "generators ") (length r.generators)
    ∷ numbered (codes "relations ") (length r.relations)
    ∷ numbered (codes "subgroups ") (length r.subgroups)
    ∷ verdict_line r
    ∷ []

-- the answer
abbrev pub report_text : ReportValue → List ℕ
report_text r = concat (report_lines r)
