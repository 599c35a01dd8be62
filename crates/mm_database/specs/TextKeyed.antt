-- The hasher of two keys.
use Rattle.core.specs.declared.hash.sip.DefaultHasher.{DefaultHasher}
use Rattle.core.specs.Hash.DefaultHasher.{with_keys}
use Rattle.mm_database.specs.declared.text_keyed.TextKeyed.{TextKeyed}

abbrev pub hasher_with : TextKeyed → DefaultHasher
hasher_with k = with_keys k.key0 k.key1
