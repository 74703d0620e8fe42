-- What is read past the end of a lent slice of own addresses.
use Rattle.plain.specs.Address.{zero_address}
use Rattle.own.specs.declared.Own.{Own}

abbrev pub no_own : Own
no_own = record { receiving = zero_address; sending = zero_address }
