use Rattle.std.proofs.Common.{◌≡◌, ◌++◌, ◌-◌, length, drop, replicate, sym, ap, ◌∙◌}
use Rattle.std.proofs.lemmas.List.{drop-replicate}
use Rattle.std.proofs.lemmas.Bool.{cond-false}
use Rattle.std.proofs.lemmas.Result.{err_from_is_err_and}
use Rattle.sheet.proofs.Answered.{told}
use Rattle.sheet.proofs.Returned.{returned_as}
use Rattle.sheet.proofs.Whole.{in_reading, read_whole, refused_whole}
use Rattle.sheet.specs.Reading.{blank, reading, table_of}
use Rattle.sheet.proofs.reader.read.Goals as goal

pub returns-then-not-fits : goal.returns-then-not-fits
returns-then-not-fits c =
    let both = refused_whole c.args.sheet.now _ (cond-false _ _ _ (sym c.fits.ensures ∙ c.if-not-fits.true)) in
    record { told = told _ _ _ both.0 both.1; returned = returned_as _ _ _ both.0 both.1; answer = both.0; table = both.1 }

pub returns-in_err-head : goal.returns-in_err-head
returns-in_err-head c =
    let p = err_from_is_err_and c.from_residual.result c.from_residual.ensures.1 in
    let both = refused_whole c.args.sheet.now _ (in_reading c.args.sheet.now (sym c.fits.ensures ∙ c.if-not-fits.false) ∙ sym c.in_err-head.ensures) in
    rw (p.1, p.2) (record { told = told _ _ _ both.0 both.1; returned = returned_as _ _ _ both.0 both.1; answer = both.0; table = both.1 })

pub returns : goal.returns
returns c =
    let es = c.in_ok-head.field-0.tasks.items in
    let both = read_whole c.args.sheet.now c.in_ok-head.field-0.head es (sym c.fits.ensures ∙ c.if-not-fits.false) c.in_ok-head.ensures in
    let copied : c.copy_from_slice.new.self ≡ es = c.copy_from_slice.ensures.after ∙ c.deref.ensures.0 in
    let rest : drop c.len.result (replicate 64 blank) ≡ replicate (64 - length es) blank = drop-replicate c.len.result 64 blank ∙ ap (λ n. replicate (64 - n) blank) c.len.ensures.value in
    let table : c.copy_from_slice.new.self ++ drop c.len.result (replicate 64 blank) ≡ table_of (reading c.args.sheet.now) =
    ap (λ l. l ++ drop c.len.result (replicate 64 blank)) copied ∙ ap (λ r. es ++ r) rest ∙ both.1 in
    record { told = told _ _ _ both.0 table; returned = returned_as _ _ _ both.0 table; answer = both.0; table = table }
