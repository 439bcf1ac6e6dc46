mod Loop
mod Fields
mod Laws
