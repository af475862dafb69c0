use Rattle.std.specs.Prelude.{⊤}
use Rattle.std.specs.Borrow.{Bor}
use Rattle.chumsky_input.specs.declared.util.MaybeRef.{MaybeRef}
use Rattle.chumsky_input.specs.declared.util.MaybeRef.TheVariants.{Ref, Val}

-- the value that is pointed to
abbrev pub ref_value : {T : Type 0} → Bor T → T
ref_value r = r.now

-- the value that is there or is pointed to
abbrev pub maybe_value : {T : Type 0} → MaybeRef T → T
maybe_value (Ref r) = ref_value r
maybe_value (Val x) = x

-- that the value is there, or a clone of it never fails
abbrev pub OwnsFreely : {T : Type 0} → (T → Type 0) → MaybeRef T → Type 0
OwnsFreely free (Ref r) = free r.now
OwnsFreely free (Val x) = ⊤

pub owns_freely : {T : Type 0} (free : T → Type 0) → ((x : T) → free x) → (m : MaybeRef T) → OwnsFreely free m
owns_freely free h (Ref r) = h r.now
owns_freely free h (Val x) = tt
