-- What is told of a stage, from its value.
use Rattle.std.proofs.Common.{◌≡◌, refl, ℕ, zero, suc, ◌+◌, ◌<◌, List, [], ◌∷◌, ◌++◌}
use Rattle.std.proofs.Common.{length, take, codes, String, Vec, Global, string_bytes, flat_map, append_assoc}
use Rattle.std.proofs.Common.{sym, ◌∙◌, ap, subst, arith}
use Rattle.std.specs.Prelude.{slice_index, MatchOption, unwrap_or, IfOk}
use Rattle.std.specs.declared.option.Option.{Option}
use Rattle.std.specs.declared.option.Option.TheVariants.{None, Some}
use Rattle.std.specs.declared.result.Result.{Result}
use Rattle.std.specs.declared.result.Result.TheVariants.{Ok, Err}
use Rattle.std.specs.Option.{option_map}
use Rattle.std.proofs.lemmas.List.{take_more, append-nil}
use Rattle.std.proofs.lemmas.Grind.{flat_map-append}
use Rattle.p_groups.specs.PGroups.{PGroup}
use Rattle.min_res.specs.declared.fault.ResFault.{ResFault}
use Rattle.min_res.specs.Values.{BoundaryValue, StageValue, ResolutionValue, boundary_of, no_rows}
use Rattle.min_res.specs.Values.{first_alone}
use Rattle.min_res.specs.Defined.{IsStageAt}
use Rattle.min_res.specs.Stages.{rank_of, stage_rows}
use Rattle.coho_steps.specs.Lines.{after_space, contents}
use Rattle.stage_answers.specs.Answers.{stage_line, stage_lines}
use Rattle.stage_answers.specs.Stages.{Summary, summary, HasRows, rows_at, stage_at, stages_below}
use Rattle.stage_answers.specs.Stages.{AreStagesTo, IsStageRefusal}
use Rattle.stage_walk.specs.Dimensions.{Fit, IsFirstAbove}
use Rattle.power_commutator.specs.Presentations.{Presentation}
use Rattle.coho_steps.specs.Stops.{IsRefused}
use Rattle.coho_steps.specs.Groups.{ForGroupOf, IsTableOf}
use Rattle.stage_answers.specs.Resolving.{IsStageFault, IsResolutionTo, stop_of, TellsStage, TellsStages}
use Rattle.min_res.specs.declared.fault.ResFault.TheVariants as fault

-- the rows of a boundary

pub no_rows_at_zero : (s : StageValue) → HasRows s → s.degree ≡ 0 → (summary s).rows ≡ None
no_rows_at_zero s shape e = go s.boundary shape
  where
    go : (o : Option BoundaryValue) → MatchOption o (s.degree ≡ 0) (λ B. (0 < s.degree)
        × (s.rank ≡ length B.positions)) → option_map (λ (B : BoundaryValue). B.positions) o ≡ None
    go None h = refl
    go (Some B) h = let above = h.0 in absurd (omega arith)

abbrev positions_or : Option BoundaryValue → List ℕ
positions_or o = (unwrap_or o (record {
  source = no_rows;
  positions = [];
  matrix = no_rows;
  sections = no_rows;
})).positions

pub rows_above : (s : StageValue) → HasRows s → 0 < s.degree
    → ((summary s).rows ≡ Some (boundary_of s).positions) × (s.rank ≡ length (boundary_of s).positions)
rows_above s shape above = go s.boundary shape
  where
    go : (o : Option BoundaryValue) → MatchOption o (s.degree ≡ 0) (λ B. (0 < s.degree)
        × (s.rank ≡ length B.positions))
        → (option_map (λ (B : BoundaryValue). B.positions) o ≡ Some (positions_or o))
        × (s.rank ≡ length (positions_or o))
    go None h = absurd (omega arith)
    go (Some B) h = (refl, h.1)

-- the places, one more

abbrev place : ℕ → List ℕ
place i = after_space (i + 1)

pub places_next : (places text more : List ℕ) (i : ℕ) → i < length places
    → text ≡ codes " rows" ++ flat_map place (take i places) → more ≡ text ++ place (slice_index places i)
    → more ≡ codes " rows" ++ flat_map place (take (i + 1) places)
places_next places text more i lt h k =
    let last : flat_map place (slice_index places i ∷ []) ≡ place (slice_index places i) =
    append-nil (place (slice_index places i)) in
    k ∙ ap (λ t. t ++ place (slice_index places i)) h
    ∙ append_assoc (codes " rows") (flat_map place (take i places)) (place (slice_index places i))
    ∙ ap (λ t. codes " rows" ++ (flat_map place (take i places) ++ t)) (sym last)
    ∙ ap (λ t. codes " rows" ++ t) (sym (flat_map-append place (take i places) (slice_index places i ∷ []))
    ∙ ap (flat_map place) (sym (take_more places i 0 lt)))

-- a stage of a group

module _ (G : PGroup) where
  pub has_rows : (d : ℕ) (s : StageValue) → IsStageAt G d s → HasRows s
  has_rows zero s L = subst (λ o. MatchOption o (s.degree ≡ 0) (λ B. (0 < s.degree)
      × (s.rank ≡ length B.positions))) (sym (L.none_at_zero refl)) L.degree_is
  has_rows (suc d) s L =
      let b = L.boundary_is d refl in
      let e = L.degree_is in
      let above : 0 < s.degree = omega (arith, e) in
      subst (λ o. MatchOption o (s.degree ≡ 0) (λ B. (0 < s.degree) × (s.rank ≡ length B.positions)))
      (sym b.1) (above, L.rank_is ∙ ap length (sym b.2.positions_are))

  same_rows : (d : ℕ) (s : StageValue) → IsStageAt G d s → (summary s).rows ≡ rows_at G d
  same_rows zero s L = ap (option_map (λ B. B.positions)) (L.none_at_zero refl)
  same_rows (suc d) s L =
      let b = L.boundary_is d refl in
      ap (option_map (λ B. B.positions)) b.1 ∙ ap (λ ps. Some ps) b.2.positions_are

  -- its summary is that of its degree
  pub same_summary : (d : ℕ) (s : StageValue) → IsStageAt G d s → summary s ≡ stage_at G d
  same_summary d s L =
      ap (λ k. record {
        degree = k;
        rank = s.rank;
        kernel = length s.kernel.rows;
        rows = (summary s).rows;
      }) L.degree_is
      ∙ ap (λ k. record {
        degree = d;
        rank = k;
        kernel = length s.kernel.rows;
        rows = (summary s).rows;
      }) L.rank_is
      ∙ ap (λ m. record {
        degree = d;
        rank = rank_of G d;
        kernel = length m.rows;
        rows = (summary s).rows;
      }) L.kernel_is
      ∙ ap (λ rows. record {
        degree = d;
        rank = rank_of G d;
        kernel = length ((stage_rows G).kernel d);
        rows = rows;
      }) (same_rows d s L)

pub line_of : {E : Type 0} (G : PGroup) (d : ℕ) (s : StageValue) → IsStageAt G d s
    → (r : Result (String Global) E) → IfOk r (λ text. string_bytes text ≡ stage_line (summary s))
    → IfOk r (λ text. TellsStage G d (string_bytes text))
line_of G d s L (Ok text) is = (summary s, same_summary G d s L, is)
line_of G d s L (Err e) is = tt

contents_push : (lines : List (Vec ℕ Global)) (line : Vec ℕ Global)
    → contents (lines ++ line ∷ []) ≡ contents lines ++ line.items ∷ []
contents_push [] line = refl
contents_push (l ∷ lines) line = ap (λ ls. l.items ∷ ls) (contents_push lines line)

lines_push : (stages : List Summary) (x : Summary)
    → stage_lines (stages ++ x ∷ []) ≡ stage_lines stages ++ stage_line x ∷ []
lines_push [] x = refl
lines_push (y ∷ stages) x = ap (λ ls. stage_line y ∷ ls) (lines_push stages x)

pub no_lines : (G : PGroup) (lines : List (Vec ℕ Global)) → lines ≡ [] → TellsStages G 0 (contents lines)
no_lines G lines e = ([], refl, ap contents e)

-- the lines, one more
pub lines_next : (G : PGroup) (lines more : List (Vec ℕ Global)) (line : Vec ℕ Global) (text : List ℕ) (d : ℕ)
    → TellsStages G d (contents lines) → TellsStage G d text → line.items ≡ text → more ≡ lines ++ line ∷ []
    → TellsStages G (d + 1) (contents more)
lines_next G lines more line text d old is same push =
    let next : suc d ≡ d + 1 = omega arith in (
      old.0 ++ is.0 ∷ [],
      ap (λ xs. xs ++ is.0 ∷ []) old.1 ∙ ap (λ x. stages_below G d ++ x ∷ []) is.1
          ∙ ap (λ c. stages_below G c) next,
      ap contents push ∙ contents_push lines line ∙ ap (λ t. contents lines ++ t ∷ []) same
          ∙ ap (λ ls. ls ++ text ∷ []) old.2 ∙ ap (λ l. stage_lines old.0 ++ l ∷ []) is.2
          ∙ sym (lines_push old.0 is.0),
    )

-- the resolution of a presentation

module _ (P : Presentation) (n : ℕ) (G : PGroup) (start : ResolutionValue) (is : IsTableOf P G)
    (from : start ≡ first_alone G) where
  pub resolution_to : (new : ResolutionValue) → new.group ≡ start.group → new.last ≡ n → Fit start.group n
      → IsResolutionTo P n new
  resolution_to new same last fit = record {
    is_table = subst (IsTableOf P) (sym (same ∙ ap (λ (r : ResolutionValue). r.group) from)) is;
    last = last;
    fit = subst (λ K. Fit K n) (sym same) fit;
  }

  pub stage_stop : (e : ResFault) → IsStageFault start.group n e
      → IsRefused (λ refusal. ForGroupOf P (λ G. IsStageRefusal G n refusal)) (stop_of e)
  stage_stop (fault.TooLarge d X) first = record {
    group = G;
    is_table = is;
    holds = (d, X, subst (λ (r : ResolutionValue). IsFirstAbove r.group n d X) from first, refl);
  }
  stage_stop fault.Memory first = tt

-- what the answer tells of it
pub stages_of : (P : Presentation) (n : ℕ) (r : ResolutionValue) → IsResolutionTo P n r
    → (lines : List (List ℕ)) → TellsStages r.group (r.last + 1) lines
    → (stages : List Summary) × ForGroupOf P (λ G. AreStagesTo G n stages) × (lines ≡ stage_lines stages)
stages_of P n r R lines t =
    let same : r.last + 1 ≡ suc n = let e = R.last in omega (arith, e) in (
      t.0,
      record {
        group = r.group;
        is_table = R.is_table;
        holds = record { fit = R.fit; are = t.1 ∙ ap (stages_below r.group) same };
      },
      t.2,
    )
