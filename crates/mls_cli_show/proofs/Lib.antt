mod Numbers
mod References
