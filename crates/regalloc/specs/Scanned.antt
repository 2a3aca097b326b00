-- Certificates that name no place but those that there are, in registers of the machine and in
-- slots.
use Rattle.std.specs.Prelude.{◌≡◌, ℕ, Bool, true, ◌&&◌, List}
use Rattle.std.specs.List.{list_all}
use Rattle.vcode.specs.Prelude.{is_place}
use Rattle.certificates.specs.declared.certificate.Equality.{Equality}
use Rattle.certificates.specs.declared.certificate.Transfer.{Transfer}
use Rattle.certificates.specs.declared.certificate.Certificate.{Certificate}

-- each register at a place that there is, with as many slots as registers
abbrev pub are_placed : (registers : ℕ) → List Equality → Bool
are_placed registers es = list_all (λ (e : Equality). is_place registers e.place) es

-- moves between such places
abbrev pub are_between : (registers : ℕ) → List Transfer → Bool
are_between registers ms =
    list_all (λ (m : Transfer). is_place registers m.from && is_place registers m.to) ms

pub record IsScanned (registers : ℕ) (c : Certificate) : Type 0 where
  pub params : list_all (is_place registers) c.params ≡ true
  pub everywhere : are_placed registers c.everywhere ≡ true
  pub starts : list_all (are_placed registers) c.starts ≡ true
  pub moves : list_all (are_between registers) c.moves ≡ true
  pub places : list_all (are_placed registers) c.places ≡ true
