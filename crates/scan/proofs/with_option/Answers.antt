use mathlib.Core.Path.{refl}
use native.Mathlib.Omega.{arith}
use Rattle.scan.proofs.Laws.{seen_other, noted_as, apart}
use Rattle.scan.proofs.with_option.Goals as goal

pub returns-in-4 : goal.returns-in-4
returns-in-4 c = let h = c.in-4.is in λ msg all rest w v. record {
  configuration = noted_as h c.noted.ensures msg all rest w v.configuration;
  rreq = seen_other w v.rreq (apart 4 11 refl _ h);
  rrep = seen_other w v.rrep (apart 4 12 refl _ h);
  art = seen_other w v.art (apart 4 13 refl _ h);
}

pub returns-in-11 : goal.returns-in-11
returns-in-11 c = let h = c.in-11.is in λ msg all rest w v. record {
  configuration = seen_other w v.configuration (apart 11 4 refl _ h);
  rreq = noted_as h c.noted-in-11.ensures msg all rest w v.rreq;
  rrep = seen_other w v.rrep (apart 11 12 refl _ h);
  art = seen_other w v.art (apart 11 13 refl _ h);
}

pub returns-in-12 : goal.returns-in-12
returns-in-12 c = let h = c.in-12.is in λ msg all rest w v. record {
  configuration = seen_other w v.configuration (apart 12 4 refl _ h);
  rreq = seen_other w v.rreq (apart 12 11 refl _ h);
  rrep = noted_as h c.noted-in-12.ensures msg all rest w v.rrep;
  art = seen_other w v.art (apart 12 13 refl _ h);
}

pub returns-in-13 : goal.returns-in-13
returns-in-13 c = let h = c.in-13.is in λ msg all rest w v. record {
  configuration = seen_other w v.configuration (apart 13 4 refl _ h);
  rreq = seen_other w v.rreq (apart 13 11 refl _ h);
  rrep = seen_other w v.rrep (apart 13 12 refl _ h);
  art = noted_as h c.noted-in-13.ensures msg all rest w v.art;
}

pub returns-in_default : goal.returns-in_default
returns-in_default c = λ msg all rest w v. record {
  configuration = seen_other w v.configuration (λ e. omega arith);
  rreq = seen_other w v.rreq (λ e. omega arith);
  rrep = seen_other w v.rrep (λ e. omega arith);
  art = seen_other w v.art (λ e. omega arith);
}
