-- Meaning: what the directory in a site's file says of a customer.
use Rattle.std.specs.Prelude.{List, slice_index_or}
use Rattle.site_book.specs.declared.who.Who.{Who}
use Rattle.site_book.specs.declared.who.Who.TheVariants.{Named, V4, V6}
use Rattle.site_file.specs.declared.directory.Terms.{Terms}

-- what a file says of a customer; of a guest, what it says of each
abbrev pub terms_of : List Terms → Terms → Who → Terms
terms_of customers guest (Named number) = slice_index_or customers number guest
terms_of customers guest (V4 address) = guest
terms_of customers guest (V6 network) = guest
