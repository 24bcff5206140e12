use Rattle.std.proofs.Common.{◌≡◌, true, cond, ◌&&◌, leb, Some, None, sym, ap, ◌∙◌, arith}
use Rattle.sheet.specs.Forms.{value, written_well}
use Rattle.sheet.proofs.Texts.{unpadded_well}
use Rattle.sheet.proofs.forms.number_of.Goals as goal

pub returns : goal.returns
returns c =
    let ds = c.args.digits.now in
    let well : written_well ds ≡ true = unpadded_well ds c.requires (sym c.if-is_empty.ensures) (omega arith) (sym c.is_padded.ensures ∙ c.if-is_padded.false) in
    c.value.ensures ∙ ap (λ b. cond (b && leb (value ds) 65535) (Some (value ds)) None) (sym well)
