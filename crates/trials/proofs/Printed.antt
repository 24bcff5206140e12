-- Numbers printed one after the other. Assumes nothing.
use Rattle.std.proofs.Common.{◌≡◌, ℕ, ◌+◌, ◌<◌, List, [], ◌∷◌, ◌++◌, length, get_or, take, codes, decimal, sym, ap, ◌∙◌, append_assoc, append-nil}
use Rattle.std.proofs.lemmas.List.{take_more}
use Rattle.trials.specs.Printing.{after_commas}

-- One number more.
after_commas_append : (xs : List ℕ) (n : ℕ) → after_commas (xs ++ n ∷ []) ≡ after_commas xs ++ (codes "," ++ decimal n)
after_commas_append [] n = ap (λ l. codes "," ++ l) (append-nil (decimal n))
after_commas_append (x ∷ xs) n = ap (λ l. codes "," ++ (decimal x ++ l)) (after_commas_append xs n)
    ∙ ap (λ l. codes "," ++ l) (sym (append_assoc (decimal x) (after_commas xs) (codes "," ++ decimal n)))

pub after_commas_more : (xs : List ℕ) (i : ℕ) → i < length xs → after_commas (take i xs) ++ (codes "," ++ decimal (get_or xs i 0)) ≡ after_commas (take (i + 1) xs)
after_commas_more xs i h = sym (ap after_commas (take_more xs i 0 h) ∙ after_commas_append (take i xs) (get_or xs i 0))
