-- The fields of a proxy's header: what is found of a type in them, by the first field and those after it.
use Rattle.std.proofs.Common.{◌≡◌, ◌≢◌, ℕ, suc, List, cond, sym, ap, ◌∙◌, Option, Some}
use Rattle.std.proofs.lemmas.Bool.{ne_eqb, eq-eqb}
use Rattle.site_rules.specs.Fields.{first_field, value_or, field_within}

at : (n m kind : ℕ) (bytes : List ℕ) (o : Option (ℕ × List ℕ × List ℕ)) → n ≡ suc m → o ≡ first_field bytes → field_within n kind bytes ≡ value_or kind o (λ rest. field_within m kind rest)
at n m kind bytes o e f =
    ap (λ k. field_within k kind bytes) e ∙ ap (λ p. value_or kind p (λ rest. field_within m kind rest)) (sym f)

pub field-found : (n m kind found : ℕ) (bytes value rest : List ℕ) → n ≡ suc m → Some (found, value, rest) ≡ first_field bytes → found ≡ kind → field_within n kind bytes ≡ Some value
field-found n m kind found bytes value rest e f same =
    at n m kind bytes (Some (found, value, rest)) e f ∙ ap (λ t. cond t (Some value) (field_within m kind rest)) (eq-eqb found kind same)

pub field-next : (n m kind found : ℕ) (bytes value rest : List ℕ) → n ≡ suc m → Some (found, value, rest) ≡ first_field bytes → found ≢ kind → field_within n kind bytes ≡ field_within m kind rest
field-next n m kind found bytes value rest e f other =
    at n m kind bytes (Some (found, value, rest)) e f ∙ ap (λ t. cond t (Some value) (field_within m kind rest)) (ne_eqb found kind other)
