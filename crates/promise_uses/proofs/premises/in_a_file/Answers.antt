-- An instance of the premise of the law on a site's file (`in_a_file`): lists of keys that have just been made have none twice.
use Rattle.std.specs.Prelude.{◌≡◌, List, [], None}
use Rattle.std.proofs.Common.{ap, ◌∙◌}
use Rattle.site_file.specs.declared.checks.DirectoryFault.TheVariants.{Shared}
use Rattle.site_file.specs.declared.keys.TokenKey.{TokenKey}
use Rattle.site_file.specs.declared.keys.CertificateKey.{CertificateKey}
use Rattle.site_file.specs.declared.keys.NetworkKey.{NetworkKey}
use Rattle.site_file.specs.Checks.{of_customer, or_other, repeated_token, repeated_certificate, repeated_network}
use Rattle.promise_uses.proofs.premises.in_a_file.Goals as goal

none-twice : (tokens : List TokenKey) (certificates : List CertificateKey) (networks : List NetworkKey) → tokens ≡ [] → certificates ≡ [] → networks ≡ [] →
    or_other (repeated_token tokens) (or_other (repeated_certificate certificates) (repeated_network networks)) ≡ None
none-twice tokens certificates networks no_token no_certificate no_network =
    ap (λ (keys : List TokenKey). or_other (repeated_token keys) (or_other (repeated_certificate certificates) (repeated_network networks))) no_token
    ∙ (ap (λ (keys : List CertificateKey). or_other (repeated_certificate keys) (repeated_network networks)) no_certificate ∙ ap repeated_network no_network)

pub returns : goal.returns
returns c = (
  [],
  record { name = c.new.result; connections = 1; rate = record { period = 1; burst = 1 }; hall = 0 },
  record { tokens = c.new-2.result; certificates = c.new-3.result; networks = c.new-4.result },
  ap (of_customer Shared) (none-twice c.new-2.result.items c.new-3.result.items c.new-4.result.items c.new-2.ensures.items c.new-3.ensures.items c.new-4.ensures.items),
)
