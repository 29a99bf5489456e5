-- What a call that may be refused ensures, where it is known whether it was.
use Rattle.std.proofs.Common.{◌≡◌, Bool, Option, None, Some, true, false, refl}
use Rattle.std.specs.Prelude.{Result, Ok, Err, OnErr, OnOk, is_err, is_some}

pub refused : {A B : Type 0} (result : Result A B) (P : Type 0) (whether : Bool) → whether ≡ is_err result → whether ≡ true → OnErr result P → P
refused (Ok value) P whether is e h = cc
refused (Err error) P whether is e h = h

pub granted : {A B : Type 0} (result : Result A B) (P : Type 0) (whether : Bool) → whether ≡ is_err result → whether ≡ false → OnOk result P → P
granted (Ok value) P whether is e h = h
granted (Err error) P whether is e h = cc

-- what a test says that found nothing
pub missing : {A : Type 0} (found : Option A) (whether : Bool) → whether ≡ is_some found → whether ≡ false → found ≡ None
missing None whether is e = refl
missing (Some value) whether is e = cc
