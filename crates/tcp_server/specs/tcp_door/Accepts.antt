-- Meaning: what an error of a server's `accept` says.
use Rattle.std.specs.Prelude.{ℤ, pos, Bool, true, false, ◌||◌, negsuc, Option, Some, None, nat_eq}
use Rattle.std.specs.declared.io.ErrorKind.{ErrorKind}
use Rattle.std.specs.declared.io.ErrorKind.TheVariants.{ConnectionAborted, Interrupted}

-- whether an error of `accept` concerns one call or one connection alone, so that the server goes on
abbrev pub is_passing : ErrorKind → Bool
is_passing ConnectionAborted = true
is_passing Interrupted = true
is_passing _ = false

-- whether its number says that no descriptor is left: 24 in the process (Linux's EMFILE), 23 in the system (ENFILE)
abbrev pub is_out_of_descriptors : Option ℤ → Bool
is_out_of_descriptors None = false
is_out_of_descriptors (Some (pos number)) = nat_eq number 24 || nat_eq number 23
is_out_of_descriptors (Some (negsuc _)) = false

-- whether its number says that there is no memory for a connection: 12 (Linux's ENOMEM), 105 (ENOBUFS)
abbrev pub is_out_of_memory : Option ℤ → Bool
is_out_of_memory None = false
is_out_of_memory (Some (pos number)) = nat_eq number 12 || nat_eq number 105
is_out_of_memory (Some (negsuc _)) = false

-- whether its number says that something is short for a while
abbrev pub is_shortage : Option ℤ → Bool
is_shortage number = is_out_of_descriptors number || is_out_of_memory number
