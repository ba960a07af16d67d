-- What an entry does is picked by its kind.
use mathlib.Core.Path.{◌≡◌}
use mathlib.Core.Bool.{false, true≢false}
use native.Mathlib.Omega.{arith}
use Rattle.entries.specs.Kinds.{number_of, same_of, names_of}
use Rattle.entries.specs.Data.{case_of, particulars_of}
use Rattle.entries.specs.declared.raw.Raw.{Raw}
use Rattle.entries.specs.declared.kinds.Kind.{Kind}
use Rattle.entries.specs.declared.kinds.Kind.TheVariants as kind
use Rattle.entries.proofs.KindsLaws.{every_kind}
use Rattle.rules.specs.declared.accounts.Account.{Account}
use Rattle.changes.specs.Changes.{contribution_of, bill_of, payment_of, deposit_of, guarantee_of, late_charge_of, deposit_return_of, own_change_of}

-- an entry that names nothing is kept as one of its own kind, so that no kind is taken for the last one
pub own_kind : (r : Raw) (acc : Account) (k : Kind) → names_of k ≡ false → same_of k kind.Unknown ≡ false →
    number_of (particulars_of (own_change_of r k acc).«data»).kind ≡ number_of k
unfolding own_change_of contribution_of bill_of payment_of deposit_of guarantee_of late_charge_of deposit_return_of case_of particulars_of
own_kind r acc = every_kind _ (omega (arith, true≢false))
