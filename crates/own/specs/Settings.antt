-- What our two addresses mean.
use Rattle.plain.specs.Given.{Settings}
use Rattle.own.specs.declared.Own.{Own}

-- "Settings: a receiving and a sending address."
abbrev pub settings_of : Own → Settings
settings_of o = record { receiving = o.receiving; sending = o.sending }
