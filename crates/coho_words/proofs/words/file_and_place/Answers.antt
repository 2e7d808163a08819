use Rattle.std.proofs.Common.{◌≡◌, None, Some, subst}
use Rattle.std.proofs.lemmas.Result.{err_from_is_err_and}
use Rattle.coho_words.specs.Faults.{IsWordsFault}
use Rattle.coho_words.specs.Words.{place, spelled, texts}
use Rattle.coho_words.proofs.Places.{place_found, place_refused}
use Rattle.coho_words.proofs.words.file_and_place.Goals as goal

pub returns-in_err-class-clause-refused : goal.returns-in_err-class-clause-refused
returns-in_err-class-clause-refused c =
    let p = err_from_is_err_and c.from_residual-in_err-class.result c.from_residual-in_err-class.ensures.1 in
    let w = c.in_ok-found.found in
    rw (p.1, p.2) (place_refused (texts c.args.words.now) w.file.now w.degree.now w.class.now
    (spelled w.elements.items) c.in_err-class.field-0.0 c.in_ok-found.ensures.found
    (subst (λ es. IsWordsFault (place w.degree.now w.class.now (spelled es) ≡ None) c.in_err-class.field-0.0)
    c.deref.ensures.value c.in_err-class.ensures.refused))

pub returns-clause-found : goal.returns-clause-found
returns-clause-found c =
    let w = c.in_ok-found.found in
    place_found (texts c.args.words.now) w.file.now w.degree.now w.class.now (spelled w.elements.items)
    c.in_ok-class.class c.in_ok-class.elements.items c.in_ok-found.ensures.found
    (subst (λ es. place w.degree.now w.class.now (spelled es)
    ≡ Some (c.in_ok-class.class, c.in_ok-class.elements.items))
    c.deref.ensures.value c.in_ok-class.ensures.found)
