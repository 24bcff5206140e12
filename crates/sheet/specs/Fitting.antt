-- That a token fits has one proof at most.
use Rattle.std.proofs.Props.{props}
use Rattle.sheet.specs.Tokens.{Fits}
use Rattle.sheet.specs.declared.token.Token.{Token}
use Rattle.sheet.specs.declared.token.Token.TheVariants.{Name, Number, Keyword}

pub Fits-prop : (t : Token) → IsProp (Fits t)
Fits-prop (Name text place) = Prim.hlevel props
Fits-prop (Number text place) = Prim.hlevel props
Fits-prop (Keyword text place) = Prim.hlevel props
