use Rattle.std.proofs.Common.{refl, arith}
use Rattle.sheet.proofs.Cuts.{counted, field_taken}
use Rattle.sheet.proofs.lex.Lexer.next_token.Goals as goal

pub returns-clause-next : goal.returns-clause-next
returns-clause-next c =
    let s = c.args.self.now in
    let token = c.token_of.ensures in
    let found = counted 44 s.text.now s.at c.count_before.result (omega arith) c.count_before.ensures.count in
    let field = field_taken s.text.now s.at _ (omega arith) found.0 found.1 in
    rw (token.text, token.place) (field.0, refl, field.1, token.fits, field.2)
