mod Growing
mod Inside
mod Items
