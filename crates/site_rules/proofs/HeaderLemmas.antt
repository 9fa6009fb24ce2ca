-- A proxy's header of TCP over IPv6: what is read of a body of at least 36 bytes (addresses, ports, fields).
use Rattle.std.proofs.Common.{◌≡◌, ℕ, ◌+◌, ◌-◌, ◌≤◌, List, length, take, drop, cond, false, sym, ap, ◌∙◌, arith, nat_lt, Result, Ok, Err}
use Rattle.std.proofs.lemmas.Bool.Decides.{nat_tests}
use Rattle.std.proofs.lemmas.List.{take_all, length-drop}
use Rattle.site_rules.specs.declared.faults.HeaderFault.{HeaderFault}
use Rattle.site_rules.specs.declared.faults.HeaderFault.TheVariants.{ShortAddress}
use Rattle.site_rules.specs.declared.headers.Origin.TheVariants.{V6}
use Rattle.site_rules.specs.Headers.{HeaderOf, number_at, v6_reading}

-- what follows some bytes, as a slice has it
pub part-all : (n : ℕ) (xs : List ℕ) → take (length xs - n) (drop n xs) ≡ drop n xs
part-all n xs = take_all (length xs - n) (drop n xs) (omega (arith, length-drop n xs))

told : List ℕ → ℕ → List ℕ → ℕ → Result HeaderOf HeaderFault
told address port fields size = Ok (record { origin = V6 address port; fields = fields; used = 16 + size })

pub v6-long : (body address fields : List ℕ) (port : ℕ) → 36 ≤ length body → address ≡ take 16 body → port ≡ number_at body 32 → fields ≡ drop 36 body → v6_reading body ≡ Ok (record { origin = V6 address port; fields = fields; used = 16 + length body })
unfolding told
v6-long body address fields port fits a p f =
    let long : nat_lt (length body) 36 ≡ false = grind (arith, nat_tests) in
    sym (ap (λ x. told x port fields (length body)) a ∙ (ap (λ x. told (take 16 body) x fields (length body)) p ∙ (ap (λ x. told (take 16 body) (number_at body 32) x (length body)) f ∙ ap (λ t. cond t (Err ShortAddress) (told (take 16 body) (number_at body 32) (drop 36 body) (length body))) (sym long))))
