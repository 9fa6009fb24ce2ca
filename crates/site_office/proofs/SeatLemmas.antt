-- Whether a site's session has a seat at its desk.
use Rattle.site_office.proofs.Common.{◌≡◌, ℕ, false, refl, ap, Option, Some, None, is_some, option_map, SiteSeatOf, SiteTraceOf, at_site, IsSameSeat, Stays}

-- nothing is there
pub none-of : {X : Type 0} (o : Option X) → is_some o ≡ false → o ≡ None
none-of None h = refl
none-of (Some x) h = absurd (cc h)

-- a seat of which only what it knows of the book has changed is there as before
pub same-stays : (at at' : ℕ) (from to : Option SiteSeatOf) (was knew : Option SiteTraceOf) → IsSameSeat from to → at' ≡ at → knew ≡ was → Stays (at_site at from was) (at_site at' to knew)
same-stays at at' None to was knew same place kept = record { seat = ap (option_map (λ (s : SiteSeatOf). s.seat)) same; there = ap is_some same; knew = kept; place = λ here. place }
same-stays at at' (Some seat) to was knew same place kept = record { seat = ap (option_map (λ (s : SiteSeatOf). s.seat)) same.1; there = ap is_some same.1; knew = kept; place = λ here. place }
