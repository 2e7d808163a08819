use Rattle.std.proofs.Common.{◌≡◌, ◌∙◌, None, drop, sym, ap, codes, string_bytes, true, rules}
use Rattle.std.specs.Str.{bytes_eq}
use Rattle.std.proofs.lemmas.Result.{err_from_is_err_and}
use Rattle.clap.specs.Values.{kind_of}
use Rattle.std.specs.Option.{option_map}
use Rattle.coho_words.specs.Words.{Resolve, Sample, file_and_degree, file_and_place, plain_command}
use Rattle.coho_words.specs.Words.{sample_number, texts}
use Rattle.coho_words.proofs.Commands.{dashed_is, of_degree, of_place, unread_words}
use Rattle.coho_words.proofs.GivenWords.{at_resolve, at_sample, at_value, check_found, check_none}
use Rattle.coho_words.proofs.GivenWords.{group_found, group_none, named, no_words, unnamed, weaker_words}
use Rattle.coho_words.proofs.words.plain_command.Goals.{in_default-via-then-words-lt1}
use Rattle.coho_words.proofs.words.plain_command.Goals.{in_default-via-in-len1-up-5+else-eq-5}
use Rattle.coho_words.proofs.words.plain_command.Goals as goal

pub returns-in_err-one_operand-in-len1-up-clause-refused :
    goal.returns-in_err-one_operand-in-len1-up-clause-refused
returns-in_err-one_operand-in-len1-up-clause-refused c =
    let words = texts c.args.words.now in
    let first = named c.args.words.now c.name-item.result c.in-len1-up.len_at_least c.name-item.is in
    let name = string_bytes c.name-item.result in
    let is_named : bytes_eq name (codes "group") ≡ true =
    ap (λ t. bytes_eq t (codes "group")) (sym c.as_str.ensures.value) ∙ sym c.eq.ensures ∙ c.if-eq.true in
    let plain = sym c.all_plain.ensures ∙ c.if-not-all_plain.false in
    let p = err_from_is_err_and c.from_residual.result c.from_residual.ensures.1 in
    let k = kind_of c.in_err-one_operand-in-len1-up.field-0.0 in
    rw (p.1, p.2) (unread_words (plain_command words ≡ None) k (group_none words
    (drop 1 words) plain name first k is_named c.in_err-one_operand-in-len1-up.ensures.refused))

pub returns-in_ok-one_operand-in-len1-up-clause-command :
    goal.returns-in_ok-one_operand-in-len1-up-clause-command
returns-in_ok-one_operand-in-len1-up-clause-command c =
    let words = texts c.args.words.now in
    let first = named c.args.words.now c.name-item.result c.in-len1-up.len_at_least c.name-item.is in
    let name = string_bytes c.name-item.result in
    let is_named : bytes_eq name (codes "group") ≡ true =
    ap (λ t. bytes_eq t (codes "group")) (sym c.as_str.ensures.value) ∙ sym c.eq.ensures ∙ c.if-eq.true in
    let plain = sym c.all_plain.ensures ∙ c.if-not-all_plain.false in
    group_found words (drop 1 words) plain name first is_named c.in_ok-one_operand-in-len1-up.field-0.now
    c.in_ok-one_operand-in-len1-up.ensures.found

pub returns-in_err-path-in-len1-up-2-clause-refused : goal.returns-in_err-path-in-len1-up-2-clause-refused
returns-in_err-path-in-len1-up-2-clause-refused c =
    let words = texts c.args.words.now in
    let first = named c.args.words.now c.name-item-2.result c.in-len1-up.len_at_least c.name-item-2.is in
    let name = string_bytes c.name-item-2.result in
    let is_named : bytes_eq name (codes "resolve") ≡ true =
    ap (λ t. bytes_eq t (codes "resolve")) (sym c.as_str-2.ensures.value) ∙ sym c.eq-2.ensures
    ∙ c.if-eq-2.true in
    let plain = sym c.all_plain.ensures ∙ c.if-not-all_plain.false in
    let r = c.from_residual-in_err-path-in-len1-up-2 in
    let p = err_from_is_err_and r.result r.ensures.1 in
    rw (p.1, p.2) (weaker_words (file_and_degree words ≡ None) (plain_command words ≡ None)
    (λ none. at_resolve words (drop 1 words) plain name first is_named
    ∙ ap (of_degree Resolve) none) c.in_err-path-in-len1-up-2.field-0.0
    c.in_err-path-in-len1-up-2.ensures.refused)

pub returns-in_ok-path-in-len1-up-2-clause-command : goal.returns-in_ok-path-in-len1-up-2-clause-command
returns-in_ok-path-in-len1-up-2-clause-command c =
    let words = texts c.args.words.now in
    let first = named c.args.words.now c.name-item-2.result c.in-len1-up.len_at_least c.name-item-2.is in
    let name = string_bytes c.name-item-2.result in
    let is_named : bytes_eq name (codes "resolve") ≡ true =
    ap (λ t. bytes_eq t (codes "resolve")) (sym c.as_str-2.ensures.value) ∙ sym c.eq-2.ensures
    ∙ c.if-eq-2.true in
    let plain = sym c.all_plain.ensures ∙ c.if-not-all_plain.false in
    at_resolve words (drop 1 words) plain name first is_named
    ∙ ap (of_degree Resolve) c.in_ok-path-in-len1-up-2.ensures.found

pub returns-in_err-path-in-len1-up-3-clause-refused : goal.returns-in_err-path-in-len1-up-3-clause-refused
returns-in_err-path-in-len1-up-3-clause-refused c =
    let words = texts c.args.words.now in
    let first = named c.args.words.now c.name-item-3.result c.in-len1-up.len_at_least c.name-item-3.is in
    let name = string_bytes c.name-item-3.result in
    let is_named : bytes_eq name (codes "check") ≡ true =
    ap (λ t. bytes_eq t (codes "check")) (sym c.as_str-3.ensures.value) ∙ sym c.eq-3.ensures
    ∙ c.if-eq-3.true in
    let plain = sym c.all_plain.ensures ∙ c.if-not-all_plain.false in
    let r = c.from_residual-in_err-path-in-len1-up-3 in
    let p = err_from_is_err_and r.result r.ensures.1 in
    let k = kind_of c.in_err-path-in-len1-up-3.field-0.0 in
    rw (p.1, p.2) (unread_words (plain_command words ≡ None) k (check_none words
    (drop 1 words) plain name first k is_named c.in_err-path-in-len1-up-3.ensures.refused))

pub returns-in_ok-path-in-len1-up-3-clause-command : goal.returns-in_ok-path-in-len1-up-3-clause-command
returns-in_ok-path-in-len1-up-3-clause-command c =
    let words = texts c.args.words.now in
    let first = named c.args.words.now c.name-item-3.result c.in-len1-up.len_at_least c.name-item-3.is in
    let name = string_bytes c.name-item-3.result in
    let is_named : bytes_eq name (codes "check") ≡ true =
    ap (λ t. bytes_eq t (codes "check")) (sym c.as_str-3.ensures.value) ∙ sym c.eq-3.ensures
    ∙ c.if-eq-3.true in
    let plain = sym c.all_plain.ensures ∙ c.if-not-all_plain.false in
    check_found words (drop 1 words) plain name first is_named c.in_ok-path-in-len1-up-3.path.now
    c.in_ok-path-in-len1-up-3.stages.now
    c.in_ok-path-in-len1-up-3.ensures.found

pub returns-in_err-path-in-len1-up-4-clause-refused : goal.returns-in_err-path-in-len1-up-4-clause-refused
returns-in_err-path-in-len1-up-4-clause-refused c =
    let words = texts c.args.words.now in
    let first = named c.args.words.now c.name-item-4.result c.in-len1-up.len_at_least c.name-item-4.is in
    let name = string_bytes c.name-item-4.result in
    let is_named : bytes_eq name (codes "value") ≡ true =
    ap (λ t. bytes_eq t (codes "value")) (sym c.as_str-4.ensures.value) ∙ sym c.eq-4.ensures
    ∙ c.if-eq-4.true in
    let plain = sym c.all_plain.ensures ∙ c.if-not-all_plain.false in
    let r = c.from_residual-in_err-path-in-len1-up-4 in
    let p = err_from_is_err_and r.result r.ensures.1 in
    rw (p.1, p.2) (weaker_words (file_and_place words ≡ None) (plain_command words ≡ None)
    (λ none. at_value words (drop 1 words) plain name first is_named
    ∙ ap of_place none) c.in_err-path-in-len1-up-4.field-0.0
    c.in_err-path-in-len1-up-4.ensures.refused)

pub returns-in_ok-path-in-len1-up-4-clause-command : goal.returns-in_ok-path-in-len1-up-4-clause-command
returns-in_ok-path-in-len1-up-4-clause-command c =
    let words = texts c.args.words.now in
    let first = named c.args.words.now c.name-item-4.result c.in-len1-up.len_at_least c.name-item-4.is in
    let name = string_bytes c.name-item-4.result in
    let is_named : bytes_eq name (codes "value") ≡ true =
    ap (λ t. bytes_eq t (codes "value")) (sym c.as_str-4.ensures.value) ∙ sym c.eq-4.ensures
    ∙ c.if-eq-4.true in
    let plain = sym c.all_plain.ensures ∙ c.if-not-all_plain.false in
    at_value words (drop 1 words) plain name first is_named
    ∙ ap of_place c.in_ok-path-in-len1-up-4.ensures.found

pub returns-in_err-sample_number-in-len1-up-5-clause-refused :
    goal.returns-in_err-sample_number-in-len1-up-5-clause-refused
returns-in_err-sample_number-in-len1-up-5-clause-refused c =
    let words = texts c.args.words.now in
    let first = named c.args.words.now c.name-item-5.result c.in-len1-up.len_at_least c.name-item-5.is in
    let name = string_bytes c.name-item-5.result in
    let is_named : bytes_eq name (codes "sample") ≡ true =
    ap (λ t. bytes_eq t (codes "sample")) (sym c.as_str-5.ensures.value) ∙ sym c.eq-5.ensures
    ∙ c.if-eq-5.true in
    let plain = sym c.all_plain.ensures ∙ c.if-not-all_plain.false in
    let r = c.from_residual-in_err-sample_number-in-len1-up-5 in
    let p = err_from_is_err_and r.result r.ensures.1 in
    rw (p.1, p.2) (weaker_words (sample_number words ≡ None) (plain_command words ≡ None)
    (λ none. at_sample words (drop 1 words) plain name first is_named
    ∙ ap (option_map Sample) none) c.in_err-sample_number-in-len1-up-5.field-0.0
    c.in_err-sample_number-in-len1-up-5.ensures.refused)

pub returns-in_ok-sample_number-in-len1-up-5-clause-command :
    goal.returns-in_ok-sample_number-in-len1-up-5-clause-command
returns-in_ok-sample_number-in-len1-up-5-clause-command c =
    let words = texts c.args.words.now in
    let first = named c.args.words.now c.name-item-5.result c.in-len1-up.len_at_least c.name-item-5.is in
    let name = string_bytes c.name-item-5.result in
    let is_named : bytes_eq name (codes "sample") ≡ true =
    ap (λ t. bytes_eq t (codes "sample")) (sym c.as_str-5.ensures.value) ∙ sym c.eq-5.ensures
    ∙ c.if-eq-5.true in
    let plain = sym c.all_plain.ensures ∙ c.if-not-all_plain.false in
    at_sample words (drop 1 words) plain name first is_named
    ∙ ap (option_map Sample) c.in_ok-sample_number-in-len1-up-5.ensures.found

pub returns-in_default-clause-refused : goal.returns-in_default-clause-refused
returns-in_default-clause-refused c =
    let given = c.args.words.now in
    let words = texts given in
    elim c.in_default.branch [
      | in_default-via-then-words-lt1 w ↦ no_words given (search rules)
      | in_default-via-in-len1-up-5+else-eq-5 w ↦
          unnamed words _ _ _ _ _
          (named given w.name-item.result w.in-len1-up.len_at_least w.name-item.is)
          (named given w.name-item-2.result w.in-len1-up.len_at_least w.name-item-2.is)
          (named given w.name-item-3.result w.in-len1-up.len_at_least w.name-item-3.is)
          (named given w.name-item-4.result w.in-len1-up.len_at_least w.name-item-4.is)
          (named given w.name-item-5.result w.in-len1-up.len_at_least w.name-item-5.is)
          (ap (λ t. bytes_eq t (codes "group")) (sym w.as_str.ensures.value) ∙ sym w.eq.ensures
          ∙ w.if-eq.false)
          (ap (λ t. bytes_eq t (codes "resolve")) (sym w.as_str-2.ensures.value) ∙ sym w.eq-2.ensures
          ∙ w.if-eq-2.false)
          (ap (λ t. bytes_eq t (codes "check")) (sym w.as_str-3.ensures.value) ∙ sym w.eq-3.ensures
          ∙ w.if-eq-3.false)
          (ap (λ t. bytes_eq t (codes "value")) (sym w.as_str-4.ensures.value) ∙ sym w.eq-4.ensures
          ∙ w.if-eq-4.false)
          (ap (λ t. bytes_eq t (codes "sample")) (sym w.as_str-5.ensures.value) ∙ sym w.eq-5.ensures
          ∙ w.if-eq-5.false)
    ]

pub returns-then-not-all_plain-clause-refused : goal.returns-then-not-all_plain-clause-refused
returns-then-not-all_plain-clause-refused c =
    let words = texts c.args.words.now in
    dashed_is words (sym c.all_plain.ensures ∙ c.if-not-all_plain.true)
